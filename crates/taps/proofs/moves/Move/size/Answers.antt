-- Half a step by the sign of D.
use Rattle.std.proofs.Common.{◌*◌, arith}
use Rattle.taps.proofs.Sizes.{move_le}
use Rattle.taps.proofs.Signs.{half_up, half_down}
use Rattle.taps.proofs.moves.Move.size.Goals as goal
use Rattle.taps.proofs.moves.Move.size.Goals.{then-self, else-self}

pub returns : goal.returns
returns c =
    let n = c.args.self.by * c.args.k in
    let m = move_le c.args.self.by c.args.k c.args.self.by_most c.requires in
    elim c.if-self.branch [
      | then-self w ↦ let h = w.half-is in rw h (half_up n w.if-self.true, omega arith)
      | else-self w ↦ let h = w.half-is in rw h (half_down n w.if-self.false, omega arith)
    ]
