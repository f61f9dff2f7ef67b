-- `run_planes` leaves each plane as its run does, and adds what the three tell. Assumes nothing.
use Rattle.frame_planes.proofs.Counted.{frame_run}
use Rattle.frame_planes.proofs.run.run_planes.Goals as goal

pub returns : goal.returns
returns c = frame_run c.run-of_y.ensures c.run-of_u.ensures c.run-of_v.ensures
