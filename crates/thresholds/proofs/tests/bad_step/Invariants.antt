-- `bad_step` finds the first bad entry. The invariant: none of the entries passed is bad. Assumes nothing.
use mathlib.Core.Path.{◌≡◌}
use Prim.Native.Nat.{◌-◌, ◌≤◌}
use lib.ListN.{length}
use Rattle.laws.specs.Choose.{tests}
use Rattle.checks.proofs.First.{firsts}
use Rattle.std.specs.declared.option.Option.TheVariants.{None}
use Rattle.rules.specs.Refusals.{first, found_unless}
use Rattle.rules.specs.Thresholds.{step_good, bad_step}
use Rattle.thresholds.proofs.tests.bad_step.Given as goal

abbrev pub invariant-loop-k : goal.invariant-loop-k
invariant-loop-k l = (l.k ≤ 352) × (length l.steps ≡ 352) × (first l.k (λ j. found_unless (step_good l.steps j) j) ≡ None)

abbrev pub decreases-loop-k : goal.decreases-loop-k
decreases-loop-k l = 352 - l.k
