-- Either sign of D, by the laws of both samples.
use Rattle.std.proofs.Common.{ap, not, arith}
use Rattle.taps.proofs.Signs.{along_shift, against_shift, raised, lowered}
use Rattle.taps.proofs.Pairs.{differ_bit}
use Rattle.taps.proofs.moves.Move.pair.Goals as goal
use Rattle.taps.proofs.moves.Move.pair.Goals.{then-self+in_ok-unlimited, else-self+in_ok-raised}

pub returns : goal.returns
returns c =
    let size = c.size-n.ensures.0 in
    let d = differ_bit c.size-n.result 0 c.from.ensures in
    elim c.if-self.branch [
      | then-self+in_ok-unlimited w ↦
          let t = w.if-self.true in
          let p = w.in_ok-unlimited.ensures in
          rw w.first-is (along_shift _ _ _ _ size (raised _ _ _ t p.0), against_shift _ _ _ _ size (lowered _ _ _ (ap not t) p.1), omega (arith, p.2, d.0), d.1)
      | else-self+in_ok-raised w ↦
          let t = w.if-self.false in
          let p = w.in_ok-raised.ensures in
          rw w.first-is (along_shift _ _ _ _ size (lowered _ _ _ t p.1), against_shift _ _ _ _ size (raised _ _ _ (ap not t) p.0), omega (arith, p.2, d.0), d.1)
    ]
