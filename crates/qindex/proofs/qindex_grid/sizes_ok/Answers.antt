-- `sizes_ok` tests cells, subsampling and superblocks in turn. Assumes nothing.
use Rattle.laws.specs.Choose.{tests}
use Rattle.qindex.proofs.qindex_grid.sizes_ok.Goals as goal

pub returns-then-subsampling_ok : goal.returns-then-subsampling_ok
returns-then-subsampling_ok c = search tests

pub returns-else-subsampling_ok : goal.returns-else-subsampling_ok
returns-else-subsampling_ok c = search tests
