-- `bihargesh_record_plane` answers by a recorded plane's rules. Assumes nothing.
use Rattle.cside.proofs.Recorded.{recordings as needs, record_held}
use Rattle.cside.proofs.recorded_planes.bihargesh_record_plane.Goals as goal

pub returns-in-Err : goal.returns-in-Err
returns-in-Err c = search needs

pub plane_of-s-requires : goal.plane_of-s-requires
plane_of-s-requires c = search needs

pub told_record-requires : goal.told_record-requires
told_record-requires c = record_held _ _ _ _ _ c.record_plane-a.ensures

pub returns : goal.returns
returns c = search needs
