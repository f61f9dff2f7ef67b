-- `deblock_plane_plain` meets its contract. Assumes nothing.
use mathlib.Core.Path.{refl}
use Rattle.checks.proofs.Checks.{handed}
use Rattle.plane.proofs.Accepting.{stated_refused}
use Rattle.plain.proofs.Plain.{whole_asks, stated_plain}
use Rattle.plain.proofs.engine.deblock_plane_plain.Goals as goal

pub returns-in_err-plane_check : goal.returns-in_err-plane_check
returns-in_err-plane_check c = rw (handed _ c.from_residual.ensures) (stated_refused _ _ _ _ c.in_err-plane_check.ensures refl)

pub run_band-done-requires : goal.run_band-done-requires
run_band-done-requires c = whole_asks _ _ _ _ c.in_ok-plane_check.ensures refl

pub returns : goal.returns
returns c = stated_plain _ _ _ _ c.in_ok-plane_check.ensures refl c.run_band-done.ensures
