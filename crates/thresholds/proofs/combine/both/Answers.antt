-- `both` is the rule, test by test. Assumes nothing.
use Rattle.laws.specs.Choose.{tests}
use Rattle.rules.specs.Thresholds.{both_of}
use borrow.Author.Rules.{rules}
use Rattle.thresholds.proofs.combine.both.Goals as goal

pub returns-then-a-eq0 : goal.returns-then-a-eq0
unfolding both_of
returns-then-a-eq0 c = search tests

pub returns-then-b-eq0 : goal.returns-then-b-eq0
unfolding both_of
returns-then-b-eq0 c = search tests

pub returns : goal.returns
unfolding both_of
returns c = search tests
