-- `steps_check` is the checks in their order. Assumes nothing.
use Rattle.checks.proofs.Checks.{checks}
use Rattle.rules.specs.Thresholds.{steps_check}
use Rattle.thresholds.proofs.Accepted.{steps_bad}
use borrow.Author.Rules.{rules}
use Rattle.thresholds.proofs.tests.steps_check.Goals as goal

pub returns-in-Some : goal.returns-in-Some
unfolding steps_check
returns-in-Some c = search steps_bad

pub returns : goal.returns
unfolding steps_check
returns c = search checks
