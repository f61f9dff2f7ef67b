-- `step_good` is the rule, test by test. Assumes nothing.
use Rattle.laws.specs.Choose.{tests}
use Rattle.rules.specs.Thresholds.{step_good}
use borrow.Author.Rules.{rules}
use Rattle.thresholds.proofs.tests.step_good.Goals as goal

pub returns-then-a-gt1048576 : goal.returns-then-a-gt1048576
unfolding step_good
returns-then-a-gt1048576 c = search tests

pub returns-then-k-eq0 : goal.returns-then-k-eq0
unfolding step_good
returns-then-k-eq0 c = search tests

pub returns : goal.returns
unfolding step_good
returns c = search tests
