-- The plane so far holds the stores of the samples passed, with the count of those that changed; the next sample is still as it was.
use Rattle.std.proofs.Common.{refl, arith, length-set}
use Rattle.laws.specs.Changes.{put_none}
use Rattle.segment.proofs.Places.{before_in}
use Rattle.segment.proofs.Taps.{before_more}
use Rattle.segment.proofs.store.side_before.Goals as goal

pub loop-i-init : goal.loop-i-init
loop-i-init c = (omega arith, omega arith, refl, put_none _ _ _)

pub loop-i-preserved : goal.loop-i-preserved
loop-i-preserved c =
    let start = c in
    let inv = c.loop-i.invariant in
    let moved = c.before-p.ensures in (
      omega arith,
      omega arith,
      simp length-set inv.2,
      before_more _ _ _ _ _ _
          start.args.plane.now
          start.requires.2
          _
          _
          _
          (before_in
          c.loop-i.i
          c.args.s
          c.args.step
          c.args.at
          c.loop-i-test.true
          c.requires.3)
          inv.3
          moved.0
          moved.1,
    )
