-- `exact` finds the first sample over top: the invariant says that none of those passed is. Assumes nothing.
use mathlib.Core.Path.{◌≡◌}
use Prim.Native.Nat.{◌+◌, ◌-◌, ◌≤◌}
use Rattle.std.specs.declared.option.Option.TheVariants.{None}
use Rattle.rules.specs.Refusals.{first, over_top, over_row}
use Rattle.checks.proofs.Rows.{rows as needs}
use Rattle.checks.proofs.over.exact.Given as goal

abbrev pub invariant-loop-x : goal.invariant-loop-x
invariant-loop-x l = (l.x ≤ l.count) × (first l.x (λ k. over_top l.top l.plane (l.start + k)) ≡ None)

abbrev pub decreases-loop-x : goal.decreases-loop-x
decreases-loop-x l = l.count - l.x
