-- `leaf_good` makes the four tests in the rule's order. Assumes nothing.
use borrow.Author.Rules.{rules}
use Rattle.laws.specs.Choose.{tests}
use Rattle.rules.specs.TuGrid.{leaf_good}
use Rattle.tiles.specs.Fit.{size_good}
use Rattle.tiles.proofs.leaf.leaf_good.Goals as goal

pub returns-then-row-gt1023 : goal.returns-then-row-gt1023
unfolding leaf_good size_good
returns-then-row-gt1023 c = search tests

pub returns-then-col-gt1023 : goal.returns-then-col-gt1023
unfolding leaf_good size_good
returns-then-col-gt1023 c = search tests

pub returns-then-not-size_good : goal.returns-then-not-size_good
unfolding leaf_good size_good
returns-then-not-size_good c = search tests

pub returns-then-not-size_good-2 : goal.returns-then-not-size_good-2
unfolding leaf_good size_good
returns-then-not-size_good-2 c = search tests

pub returns : goal.returns
unfolding leaf_good size_good
returns c = search tests
