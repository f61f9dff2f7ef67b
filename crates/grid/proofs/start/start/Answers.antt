-- `start` answers by its checks, and clears the lists only where they accept. Assumes nothing.
use mathlib.Core.Path.{refl}
use Rattle.checks.proofs.Checks.{handed}
use Rattle.grid.proofs.Checked.{start_fit, start_refused, start_done}
use Rattle.grid.proofs.Places.{tx_cells_fit}
use Rattle.grid.proofs.start.start.Goals as goal

pub returns-in_err-check : goal.returns-in_err-check
returns-in_err-check c = rw (handed _ c.from_residual.ensures) (start_refused c.in_err-check.ensures refl)

pub overflow_mul-cells : goal.overflow_mul-cells
overflow_mul-cells c = tx_cells_fit (start_fit _ _ _ _ _ _ _ _ _ c.in_ok-check.ensures refl).0

pub blank-requires : goal.blank-requires
blank-requires c = let f = (start_fit _ _ _ _ _ _ _ _ _ c.in_ok-check.ensures refl).0 in (f.long_v, f.long_h, f.long_w, f.long_t)

pub clear-requires : goal.clear-requires
clear-requires c = (start_fit _ _ _ _ _ _ _ _ _ c.in_ok-check.ensures refl).1

pub returns : goal.returns
returns c = start_done c.in_ok-check.ensures refl c.blank.ensures c.clear.ensures
