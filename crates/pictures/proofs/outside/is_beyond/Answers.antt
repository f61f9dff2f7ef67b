-- `is_beyond` asks one way after the other. Assumes nothing.
use Rattle.laws.specs.Choose.{tests}
use Rattle.pictures.specs.Outside.{beyond}
use Rattle.pictures.proofs.outside.is_beyond.Goals as goal

pub returns-then-rows-row : goal.returns-then-rows-row
unfolding beyond
returns-then-rows-row c = search tests

pub returns-else-rows-row : goal.returns-else-rows-row
unfolding beyond
returns-else-rows-row c = search tests
