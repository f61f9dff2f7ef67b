-- Up or down, and limited.
use Rattle.std.proofs.Common.{arith}
use Rattle.taps.proofs.Signs.{raised, lowered}
use Rattle.taps.proofs.Pairs.{differ_bit}
use Rattle.taps.proofs.moves.shifted.Goals as goal
use Rattle.taps.proofs.moves.shifted.Goals.{then-up, else-up}

pub returns : goal.returns
returns c =
    let d = differ_bit c.args.x c.min-to.result c.from.ensures in
    elim c.if-up.branch [
      | then-up w ↦ (raised _ _ _ w.if-up.true (omega (arith, c.min-to.ensures, w.far-is)), d.0, d.1)
      | else-up w ↦ (lowered _ _ _ w.if-up.false (omega (arith, c.min-to.ensures, w.far-is, w.saturating_sub-far.ensures)), d.0, d.1)
    ]
