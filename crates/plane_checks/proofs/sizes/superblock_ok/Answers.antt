-- `superblock_ok` meets its contract. Assumes nothing.
use Rattle.laws.specs.Choose.{tests}
use Rattle.plane_checks.proofs.sizes.superblock_ok.Goals as goal

pub returns-then-n-eq8 : goal.returns-then-n-eq8
returns-then-n-eq8 c = search tests

pub returns : goal.returns
returns c = search tests
