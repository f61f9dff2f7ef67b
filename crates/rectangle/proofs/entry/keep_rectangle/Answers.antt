-- `keep_rectangle` answers by its checks, and sets marks only where they accept. Assumes nothing.
use mathlib.Core.Path.{refl}
use Rattle.checks.proofs.Checks.{handed}
use Rattle.rectangle.proofs.Checked.{keep_refused, keep_fit, keep_stated}
use Rattle.rectangle.proofs.entry.keep_rectangle.Goals as goal

pub returns-in_err-keep_check : goal.returns-in_err-keep_check
returns-in_err-keep_check c = rw (handed _ c.from_residual.ensures) (keep_refused c.in_err-keep_check.ensures refl)

pub set_rectangle-requires : goal.set_rectangle-requires
set_rectangle-requires c = keep_fit _ _ c.in_ok-keep_check.ensures refl

pub returns : goal.returns
returns c = keep_stated c.in_ok-keep_check.ensures refl c.set_rectangle.ensures
