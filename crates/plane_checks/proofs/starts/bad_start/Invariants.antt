-- `bad_start` meets its contract: the invariant says that no start passed is bad. Assumes nothing.
use mathlib.Core.Path.{◌≡◌}
use Prim.Native.Nat.{◌≤◌, ◌-◌}
use lib.ListN.{length}
use Rattle.std.specs.declared.option.Option.TheVariants.{None}
use Rattle.rules.specs.Plane.{start_good, bad_start}
use Rattle.rules.specs.Refusals.{first, found_unless}
use Rattle.plane_checks.proofs.Marks.{finds as needs}
use Rattle.plane_checks.proofs.starts.bad_start.Given as goal

abbrev pub invariant-loop-k : goal.invariant-loop-k
invariant-loop-k l = (l.k ≤ l.n) × (l.n ≡ length l.tiles) × (first l.k (λ i. found_unless (start_good l.cols l.tiles i) i) ≡ None)

abbrev pub decreases-loop-k : goal.decreases-loop-k
decreases-loop-k l = l.n - l.k
