-- `cells_ok` tests columns, then rows. Assumes nothing.
use borrow.Author.Rules.{rules}
use Rattle.laws.specs.Choose.{tests}
use Rattle.rules.specs.TuGrid.{cells_ok}
use Rattle.tiles.proofs.tests.cells_ok.Goals as goal

pub returns-then-not-in_range : goal.returns-then-not-in_range
unfolding cells_ok
returns-then-not-in_range c = search tests

pub returns : goal.returns
unfolding cells_ok
returns c = search tests
