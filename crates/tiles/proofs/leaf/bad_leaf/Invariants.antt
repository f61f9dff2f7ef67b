-- `bad_leaf`'s loop: no leaf passed so far is bad. Assumes nothing.
use mathlib.Core.Path.{◌≡◌}
use Prim.Native.Nat.{◌-◌, ◌≤◌}
use Rattle.laws.specs.Choose.{told_yes_not, told_no_not}
use Rattle.std.specs.declared.option.Option.TheVariants.{None}
use Rattle.rules.specs.Refusals.{first, found_unless}
use Rattle.rules.specs.TuGrid.{leaf_good_at, bad_leaf}
use Rattle.checks.proofs.First.{firsts}
use Rattle.tiles.proofs.leaf.bad_leaf.Given as goal

abbrev pub invariant-loop-k : goal.invariant-loop-k
invariant-loop-k l = (l.k ≤ l.n) × (first l.k (λ j. found_unless (leaf_good_at l.skip l.leaves j) j) ≡ None)

abbrev pub decreases-loop-k : goal.decreases-loop-k
decreases-loop-k l = l.n - l.k
