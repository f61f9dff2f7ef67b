-- `record_plane` meets its contract. Assumes nothing.
use native.Mathlib.Omega.{arith}
use mathlib.Core.Path.{refl}
use Rattle.checks.proofs.Checks.{handed}
use Rattle.recorded.proofs.Recording.{passed_by, stated_refused, stated_run}
use Rattle.recorded.proofs.entry.record_plane.Goals as goal

pub returns-in_err-record_check : goal.returns-in_err-record_check
returns-in_err-record_check c = rw (handed _ c.from_residual.ensures) (stated_refused _ _ _ _ _ c.in_err-record_check.ensures refl)

pub put_header-requires : goal.put_header-requires
put_header-requires c = let ok = passed_by _ _ _ _ _ c.in_ok-record_check.ensures refl in omega (arith, ok.fits)

pub run_noted-requires : goal.run_noted-requires
run_noted-requires c = let ok = passed_by _ _ _ _ _ c.in_ok-record_check.ensures refl in ok.checks

pub returns : goal.returns
returns c = stated_run _ _ _ _ _ c.in_ok-record_check.ensures refl c.put_header.ensures c.run_noted.ensures
