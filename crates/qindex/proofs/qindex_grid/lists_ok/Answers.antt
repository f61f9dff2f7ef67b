-- `lists_ok` tests both lengths. Assumes nothing.
use Rattle.laws.specs.Choose.{tests}
use Rattle.qindex.proofs.qindex_grid.lists_ok.Goals as goal

pub returns-then-count-ge1 : goal.returns-then-count-ge1
returns-then-count-ge1 c = search tests

pub returns-else-count-ge1 : goal.returns-else-count-ge1
returns-else-count-ge1 c = search tests
