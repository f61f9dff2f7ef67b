-- The plane so far holds the lines passed, with their counts. Assumes nothing.
use mathlib.Core.Path.{◌≡◌, refl}
use native.Mathlib.Omega.{arith}
use Rattle.kept.specs.Kept.{lines_open}
use Rattle.segment.proofs.Taps.{as_long}
use Rattle.kept.proofs.Swept.{swept_none, line_next, few_none, few_then}
use Rattle.kept.proofs.kept.lines_open.Goals as goal

pub loop-j-init : goal.loop-j-init
loop-j-init c = (omega arith, refl, swept_none _ _ _, few_none _ _)

pub loop-j-preserved : goal.loop-j-preserved
loop-j-preserved c =
    let inv = c.loop-j.invariant in
    let done = c.line_open-done.ensures in
    (omega arith, as_long _ _ done.0.list inv.1, line_next _ _ _ _ _ _ _ _ _ c.loop-j-test.true inv.2 done.0, few_then inv.3 done.1 (omega arith))

pub returns : goal.returns
unfolding lines_open
returns c =
    let all : c.loop-j.j ≡ 4 = omega arith in
    rw all at c.loop-j.invariant.2
