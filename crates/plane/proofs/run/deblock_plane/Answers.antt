-- `deblock_plane` meets its contract. Assumes nothing.
use mathlib.Core.Path.{refl}
use Rattle.checks.proofs.Checks.{handed}
use Rattle.plane.proofs.Accepting.{stated_refused, stated_run, checked_by}
use Rattle.plane.proofs.run.deblock_plane.Goals as goal

pub returns-in_err-plane_check : goal.returns-in_err-plane_check
returns-in_err-plane_check c = rw (handed _ c.from_residual.ensures) (stated_refused _ _ _ _ c.in_err-plane_check.ensures refl)

pub run_plane-done-requires : goal.run_plane-done-requires
run_plane-done-requires c = checked_by _ _ _ _ c.in_ok-plane_check.ensures refl

pub returns : goal.returns
returns c = stated_run _ _ _ _ c.in_ok-plane_check.ensures refl c.run_plane-done.ensures
