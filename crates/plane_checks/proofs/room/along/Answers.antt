-- `along` meets its contract. Assumes nothing.
use Rattle.laws.specs.Choose.{tests as needs}
use Rattle.plane_checks.proofs.room.along.Goals as goal

pub returns-then-at-b : goal.returns-then-at-b
returns-then-at-b c = search needs

pub returns-then-length-at : goal.returns-then-length-at
returns-then-length-at c = search needs

pub returns : goal.returns
returns c = search needs
