-- `replay_plane` meets its contract: refused as it was lent, or the edges run with the keep marks that they have to look at. Assumes nothing.
use Rattle.std.proofs.Common.{refl, arith}
use Rattle.checks.proofs.Checks.{handed}
use Rattle.replay.proofs.Entries.{cells_most}
use Rattle.replay.proofs.Checking.{replayed_refused, replayed_run, depth_by, runnable_by, marks_by}
use Rattle.replay.proofs.Marked.{ran_asked}
use Rattle.replay.proofs.run.replay_plane.Goals as goal

pub returns-in_err-replay_check : goal.returns-in_err-replay_check
returns-in_err-replay_check c = rw (handed _ c.from_residual.ensures) (replayed_refused _ _ _ _ c.in_err-replay_check.ensures refl)

pub overflow_mul-s : goal.overflow_mul-s
overflow_mul-s c = let ok = runnable_by _ _ _ _ c.in_ok-replay_check.ensures refl refl in omega (arith, cells_most ok.sized)

pub asked-n-requires : goal.asked-n-requires
asked-n-requires c = marks_by _ _ _ _ c.in_ok-replay_check.ensures refl

pub top-requires : goal.top-requires
top-requires c = depth_by _ _ _ _ c.in_ok-replay_check.ensures refl

pub run_record-requires : goal.run_record-requires
run_record-requires c = runnable_by _ _ _ _ c.in_ok-replay_check.ensures refl c.top.ensures

pub returns : goal.returns
returns c =
    let ok = c.in_ok-replay_check.ensures in
    replayed_run _ _ _ _ ok refl (ran_asked _ _ _ _ ok refl c.asked-n.ensures c.run_record.ensures)
