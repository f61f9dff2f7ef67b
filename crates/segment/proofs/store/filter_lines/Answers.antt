-- The plane so far holds the taps of the lines passed, with their counts; the next line is still as it was.
use Rattle.std.proofs.Common.{◌≡◌, refl, arith}
use Rattle.segment.specs.Sides.{four_taps}
use Rattle.segment.proofs.Taps.{as_long, taps_none, line_more}
use Rattle.segment.proofs.store.filter_lines.Goals as goal

pub loop-j-init : goal.loop-j-init
loop-j-init c = (omega arith, omega arith, omega arith, refl, taps_none _ _)

pub loop-j-preserved : goal.loop-j-preserved
loop-j-preserved c =
    let turns = c.loop-j in
    let taps = c.apply_taps-done.ensures in (
      omega arith,
      omega (arith, taps.1, turns.invariant.1),
      omega (arith, taps.2, turns.invariant.2),
      as_long _ _ taps.0.put.list turns.invariant.3,
      line_more _ _ _ _ _ _ _ _ c.requires.spread _ _ c.loop-j-test.true refl turns.invariant.4 taps.0,
    )

pub returns : goal.returns
unfolding four_taps
returns c =
    let all : c.loop-j.j ≡ 4 = omega arith in
    rw all at c.loop-j.invariant.4
