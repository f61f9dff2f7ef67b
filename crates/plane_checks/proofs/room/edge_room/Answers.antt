-- `edge_room` meets its contract. Assumes nothing.
use Rattle.plane_checks.proofs.Reach.{rooms as needs}
use Rattle.plane_checks.proofs.room.edge_room.Goals as goal

pub along-requires : goal.along-requires
along-requires c = search needs

pub returns-then-dir-eq0 : goal.returns-then-dir-eq0
returns-then-dir-eq0 c = search needs

pub along-requires-2 : goal.along-requires-2
along-requires-2 c = search needs

pub returns : goal.returns
returns c = search needs
