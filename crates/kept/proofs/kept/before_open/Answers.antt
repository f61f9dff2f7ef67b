-- The plane so far holds the samples passed before the edge that are not kept, with their counts. Assumes nothing.
use mathlib.Core.Path.{refl}
use Prim.Native.Nat.{◌*◌, ◌-◌}
use native.Mathlib.Omega.{arith}
use Rattle.rules.specs.Segment.{p_at}
use Rattle.taps.specs.Signed.{along}
use Rattle.segment.proofs.Taps.{as_long}
use Rattle.kept.proofs.Swept.{swept_none, side_more, few_none, few_then}
use Rattle.kept.proofs.kept.before_open.Goals as goal

pub loop-i-init : goal.loop-i-init
loop-i-init c = (omega arith, refl, swept_none _ _ _, few_none _ _)

pub loop-i-preserved : goal.loop-i-preserved
loop-i-preserved c =
    let start = c.args in
    let inv = c.loop-i.invariant in
    let put = c.put_open-done.ensures in
    let moved = c.before-x.ensures in (
      omega arith,
      as_long _ _ put.0.list inv.1,
      side_more (p_at start.at start.step) (λ i x. along start.m.top x start.m.plus (start.m.by * (start.s - i))) start.s _ _ _ _ c.loop-i-test.true inv.2 moved.0 moved.1 put.0,
      few_then inv.3 put.1 (omega arith),
    )
