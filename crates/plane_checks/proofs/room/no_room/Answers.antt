-- `no_room` meets its contract. Assumes nothing.
use Rattle.plane_checks.proofs.Reach.{both_ways as needs}
use Rattle.plane_checks.proofs.room.no_room.Goals as goal

pub returns-in-Some : goal.returns-in-Some
returns-in-Some c = search needs

pub returns : goal.returns
returns c = search needs
