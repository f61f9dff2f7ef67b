-- `subsampling_ok` makes both tests. Assumes nothing.
use Rattle.laws.specs.Choose.{tests}
use Rattle.rules.specs.Numbers.{subsampling_ok}
use Rattle.tiles.proofs.tests.subsampling_ok.Goals as goal

pub returns-then-ssx-gt1 : goal.returns-then-ssx-gt1
unfolding subsampling_ok
returns-then-ssx-gt1 c = search tests

pub returns : goal.returns
unfolding subsampling_ok
returns c = search tests
