-- `bihargesh_plane` answers by a plane's rules. Assumes nothing.
use Rattle.cside.proofs.Telling.{planes as needs}
use Rattle.cside.proofs.planes.bihargesh_plane.Goals as goal

pub returns-in-Err : goal.returns-in-Err
returns-in-Err c = search needs

pub plane_of-s-requires : goal.plane_of-s-requires
plane_of-s-requires c = search needs

pub returns : goal.returns
returns c = search needs
