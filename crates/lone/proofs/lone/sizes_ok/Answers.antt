-- Each test in its order.
use Rattle.laws.specs.Choose.{tests}
use Rattle.rules.specs.Lone.{sizes_ok}
use borrow.Author.Rules.{rules}
use Rattle.lone.proofs.lone.sizes_ok.Goals as goal

pub returns-then-not-in_range : goal.returns-then-not-in_range
unfolding sizes_ok
returns-then-not-in_range c = search tests

pub returns-then-not-in_range-2 : goal.returns-then-not-in_range-2
unfolding sizes_ok
returns-then-not-in_range-2 c = search tests

pub returns : goal.returns
unfolding sizes_ok
returns c = search tests
