-- `counts_ok` meets its contract. Assumes nothing.
use borrow.Author.Rules.{rules}
use Rattle.laws.specs.Choose.{tests}
use Rattle.rules.specs.Rows.{counts_ok}
use Rattle.rows.proofs.counts.counts_ok.Goals as goal

pub returns-then-not-count_ok : goal.returns-then-not-count_ok
unfolding counts_ok
returns-then-not-count_ok c = search tests

pub returns-then-not-count_ok-2 : goal.returns-then-not-count_ok-2
unfolding counts_ok
returns-then-not-count_ok-2 c = search tests

pub returns : goal.returns
unfolding counts_ok
returns c = search tests
