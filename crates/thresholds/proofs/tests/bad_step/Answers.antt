-- `bad_step` finds the first bad entry. The invariant: none of the entries passed is bad. Assumes nothing.
use mathlib.Core.Path.{◌≡◌}
use Prim.Native.Nat.{◌-◌, ◌≤◌}
use lib.ListN.{length}
use Rattle.laws.specs.Choose.{tests}
use Rattle.checks.proofs.First.{firsts}
use Rattle.std.specs.declared.option.Option.TheVariants.{None}
use Rattle.rules.specs.Refusals.{first, found_unless}
use Rattle.rules.specs.Thresholds.{step_good, bad_step}
use Rattle.thresholds.proofs.tests.bad_step.Goals as goal

ruleset scans = (tests, firsts)

pub returns-then-steps-ne352 : goal.returns-then-steps-ne352
unfolding bad_step
returns-then-steps-ne352 c = search scans

pub loop-k-init : goal.loop-k-init
loop-k-init c = search scans

pub returns-then-not-step_good : goal.returns-then-not-step_good
unfolding bad_step
returns-then-not-step_good c = search scans

pub loop-k-preserved : goal.loop-k-preserved
loop-k-preserved c = search scans

pub returns : goal.returns
unfolding bad_step
returns c = search scans
