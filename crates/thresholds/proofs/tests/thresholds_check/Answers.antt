-- `thresholds_check` is the checks in their order. Assumes nothing.
use mathlib.Core.Path.{◌∙◌}
use Rattle.checks.proofs.Checks.{checks, handed}
use Rattle.rules.specs.Thresholds.{thresholds_check}
use borrow.Author.Rules.{rules}
use Rattle.thresholds.proofs.tests.thresholds_check.Goals as goal

pub returns-then-not-is : goal.returns-then-not-is
unfolding thresholds_check
returns-then-not-is c = search checks

pub returns-in_err-steps_check : goal.returns-in_err-steps_check
unfolding thresholds_check
returns-in_err-steps_check c = handed _ c.from_residual.ensures ∙ search checks

pub returns : goal.returns
unfolding thresholds_check
returns c = search checks
