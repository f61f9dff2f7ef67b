-- `count_ok` meets its contract. Assumes nothing.
use borrow.Author.Rules.{rules}
use Rattle.laws.specs.Choose.{tests}
use Rattle.rules.specs.Rows.{count_ok}
use Rattle.rows.proofs.counts.count_ok.Goals as goal

pub returns-then-rows-n : goal.returns-then-rows-n
unfolding count_ok
returns-then-rows-n c = search tests

pub returns : goal.returns
unfolding count_ok
returns c = search tests
