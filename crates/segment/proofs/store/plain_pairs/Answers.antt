-- The plane so far holds the stores of the pairs passed, twice as many of which changed as moves were not 0; the next two samples are still as they were.
use Rattle.std.proofs.Common.{refl, arith, length-set}
use Rattle.segment.proofs.Places.{before_in}
use Rattle.segment.proofs.Taps.{pair_none, pair_plain}
use Rattle.segment.proofs.store.plain_pairs.Goals as goal

pub loop-i-init : goal.loop-i-init
loop-i-init c = (omega arith, omega arith, refl, pair_none _ _ _ _ _ _ _ c.requires.1 0)

pub loop-i-preserved : goal.loop-i-preserved
loop-i-preserved c =
    let start = c.args in
    let inv = c.loop-i.invariant in
    let t = c.in-Some.ensures in
    let low = before_in c.loop-i.i start.s start.step start.at c.loop-i-test.true c.requires.2 in
    (omega arith, omega (arith, t.3), simp length-set inv.2, pair_plain _ _ _ _ _ _ start.plane.now c.requires.1 c.loop-i.i _ _ _ _ low inv.3 t.0 t.1 t.2)
