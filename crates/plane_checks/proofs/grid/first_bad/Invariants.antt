-- `first_bad` meets its contract: the invariant says that no cell passed is bad. Assumes nothing.
use mathlib.Core.Path.{◌≡◌}
use mathlib.Core.List.{[]}
use Prim.Native.Nat.{◌≤◌, ◌-◌}
use Rattle.std.specs.declared.option.Option.TheVariants.{None}
use Rattle.rules.specs.Plane.{keeping, cell_good}
use Rattle.rules.specs.Refusals.{first, found_unless}
use Rattle.plane_checks.specs.Fit.{bad_of}
use Rattle.plane_checks.proofs.Marks.{finds as needs}
use Rattle.plane_checks.proofs.grid.first_bad.Given as goal

abbrev pub invariant-loop-k : goal.invariant-loop-k
invariant-loop-k l = (l.k ≤ l.count) × (first l.k (λ i. found_unless (cell_good (keeping l.vedge l.hedge l.sqw l.sqh [] [] l.keep) i) i) ≡ None)

abbrev pub decreases-loop-k : goal.decreases-loop-k
decreases-loop-k l = l.count - l.k
