-- `lacks_room` meets its contract. Assumes nothing.
use Rattle.plane_checks.proofs.Reach.{rooms as needs}
use Rattle.plane_checks.proofs.room.lacks_room.Goals as goal

pub returns-then-not-is_edge : goal.returns-then-not-is_edge
returns-then-not-is_edge c = search needs

pub edge_room-requires : goal.edge_room-requires
edge_room-requires c = search needs

pub returns-then-edge_room : goal.returns-then-edge_room
returns-then-edge_room c = search needs

pub returns : goal.returns
returns c = search needs
