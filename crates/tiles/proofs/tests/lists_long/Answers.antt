-- `lists_long` tests the five lengths in turn. Assumes nothing.
use Rattle.laws.specs.Choose.{tests as needs}
use Rattle.tiles.proofs.tests.lists_long.Goals as goal

pub returns-then-v-n : goal.returns-then-v-n
returns-then-v-n c = search needs

pub returns-then-h-n : goal.returns-then-h-n
returns-then-h-n c = search needs

pub returns-then-w-n : goal.returns-then-w-n
returns-then-w-n c = search needs

pub returns-then-t-n : goal.returns-then-t-n
returns-then-t-n c = search needs

pub returns : goal.returns
returns c = search needs
