-- `bad_keep` finds the first mark over 1: the invariant says that none of those passed is. Assumes nothing.
use mathlib.Core.Path.{◌≡◌}
use Prim.Native.Nat.{◌-◌, ◌≤◌}
use Rattle.std.specs.declared.option.Option.TheVariants.{None}
use Rattle.rules.specs.Refusals.{first, over_top}
use Rattle.rules.specs.Plane.{bad_keep}
use Rattle.checks.proofs.Rows.{rows as needs}
use Rattle.checks.proofs.marks.bad_keep.Given as goal

abbrev pub invariant-loop-k : goal.invariant-loop-k
invariant-loop-k l = (l.k ≤ l.count) × (first l.k (λ i. over_top 1 l.keep i) ≡ None)

abbrev pub decreases-loop-k : goal.decreases-loop-k
decreases-loop-k l = l.count - l.k
