-- `is_pair` makes both tests. Assumes nothing.
use Rattle.laws.specs.Choose.{tests}
use Rattle.tiles.proofs.tile.is_pair.Goals as goal

pub returns-then-bw-w : goal.returns-then-bw-w
returns-then-bw-w c = search tests

pub returns : goal.returns
returns c = search tests
