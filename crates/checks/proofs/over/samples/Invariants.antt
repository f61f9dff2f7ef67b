-- `samples` goes row by row: the invariant says that the rows passed have no sample over top. Assumes nothing.
use mathlib.Core.Path.{◌≡◌}
use Prim.Native.Nat.{◌+◌, ◌*◌, ◌-◌, ◌≤◌}
use Rattle.std.specs.declared.option.Option.TheVariants.{None}
use Rattle.rules.specs.Refusals.{first, over_row, over_box}
use Rattle.checks.proofs.Rows.{rows as needs}
use Rattle.checks.proofs.over.samples.Given as goal

abbrev pub invariant-loop-y : goal.invariant-loop-y
invariant-loop-y l = (l.y ≤ l.rows) × (first l.y (λ k. over_row l.top l.plane (l.start + k * l.stride) l.count) ≡ None)

abbrev pub decreases-loop-y : goal.decreases-loop-y
decreases-loop-y l = l.rows - l.y
