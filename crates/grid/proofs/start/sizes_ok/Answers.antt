-- `sizes_ok` tests the cells, then the subsampling. Assumes nothing.
use Rattle.laws.specs.Choose.{tests}
use Rattle.grid.proofs.start.sizes_ok.Goals as goal

pub returns-then-not-cells_ok : goal.returns-then-not-cells_ok
returns-then-not-cells_ok c = search tests

pub returns : goal.returns
returns c = search tests
