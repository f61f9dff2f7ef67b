-- `deltas_check` is refusal 5. Assumes nothing.
use Rattle.checks.proofs.Checks.{checks}
use Rattle.rules.specs.Thresholds.{deltas_check}
use borrow.Author.Rules.{rules}
use Rattle.thresholds.proofs.tests.deltas_check.Goals as goal

pub returns-then-not-delta_ok : goal.returns-then-not-delta_ok
unfolding deltas_check
returns-then-not-delta_ok c = search checks

pub returns-then-not-delta_ok-2 : goal.returns-then-not-delta_ok-2
unfolding deltas_check
returns-then-not-delta_ok-2 c = search checks

pub returns : goal.returns
unfolding deltas_check
returns c = search checks
