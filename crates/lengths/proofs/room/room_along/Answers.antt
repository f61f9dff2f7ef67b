-- Each test in its order.
use Rattle.laws.specs.Choose.{tests}
use Rattle.lengths.proofs.room.room_along.Goals as goal

pub returns-then-x-a : goal.returns-then-x-a
returns-then-x-a c = search tests

pub returns-else-x-a : goal.returns-else-x-a
returns-else-x-a c = search tests
