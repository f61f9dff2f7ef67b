-- The box of the reach, upright or level.
use native.Mathlib.Omega.{arith}
use Rattle.lone.proofs.Accepted.{upright, level, over_upright, over_level}
use borrow.Author.Rules.{rules}
use Rattle.lone.proofs.lone.over_edge.Goals as goal

pub overflow_mul-e : goal.overflow_mul-e
overflow_mul-e c = omega (arith, upright c.requires _ _ c.reach_before-b.ensures c.reach_after-a.ensures c.if-e-eq0.true)

pub overflow_sub-e : goal.overflow_sub-e
overflow_sub-e c = (upright c.requires _ _ c.reach_before-b.ensures c.reach_after-a.ensures c.if-e-eq0.true).0

pub overflow_add-e : goal.overflow_add-e
overflow_add-e c = omega (arith, upright c.requires _ _ c.reach_before-b.ensures c.reach_after-a.ensures c.if-e-eq0.true)

pub overflow_add-b : goal.overflow_add-b
overflow_add-b c = omega (arith, upright c.requires _ _ c.reach_before-b.ensures c.reach_after-a.ensures c.if-e-eq0.true)

pub samples-requires : goal.samples-requires
samples-requires c = (upright c.requires _ _ c.reach_before-b.ensures c.reach_after-a.ensures c.if-e-eq0.true).3

pub overflow_sub-e-else-e-eq0 : goal.overflow_sub-e-else-e-eq0
overflow_sub-e-else-e-eq0 c = (level c.requires _ _ c.reach_before-b.ensures c.reach_after-a.ensures c.if-e-eq0.false).0

pub overflow_mul-e-else-e-eq0 : goal.overflow_mul-e-else-e-eq0
overflow_mul-e-else-e-eq0 c = omega (arith, level c.requires _ _ c.reach_before-b.ensures c.reach_after-a.ensures c.if-e-eq0.false)

pub overflow_add-e-else-e-eq0 : goal.overflow_add-e-else-e-eq0
overflow_add-e-else-e-eq0 c = omega (arith, level c.requires _ _ c.reach_before-b.ensures c.reach_after-a.ensures c.if-e-eq0.false)

pub overflow_add-b-else-e-eq0 : goal.overflow_add-b-else-e-eq0
overflow_add-b-else-e-eq0 c = omega (arith, level c.requires _ _ c.reach_before-b.ensures c.reach_after-a.ensures c.if-e-eq0.false)

pub samples-requires-else-e-eq0 : goal.samples-requires-else-e-eq0
samples-requires-else-e-eq0 c = (level c.requires _ _ c.reach_before-b.ensures c.reach_after-a.ensures c.if-e-eq0.false).3

pub returns-then-e-eq0 : goal.returns-then-e-eq0
returns-then-e-eq0 c = over_upright c.requires _ _ c.reach_before-b.ensures c.reach_after-a.ensures _ _ c.if-e-eq0.true c.samples.ensures

pub returns-else-e-eq0 : goal.returns-else-e-eq0
returns-else-e-eq0 c = over_level c.requires _ _ c.reach_before-b.ensures c.reach_after-a.ensures _ _ c.if-e-eq0.false c.samples-else-e-eq0.ensures
