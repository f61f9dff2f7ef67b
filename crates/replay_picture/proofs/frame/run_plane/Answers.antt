-- `run_plane` hands on what the record gives. Assumes nothing.
use Rattle.replay_picture.proofs.frame.run_plane.Goals as goal

pub returns-in-Err : goal.returns-in-Err
returns-in-Err c = c.replay_plane-a.ensures.plane

pub returns : goal.returns
returns c = c.replay_plane-a.ensures.plane
