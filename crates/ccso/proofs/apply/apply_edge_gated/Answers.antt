-- `apply_edge_gated` answers with the first check that fails, and runs where none does. Assumes nothing.
use mathlib.Core.Path.{sym}
use Rattle.checks.proofs.Checks.{handed}
use Rattle.ccso.proofs.Accepted.{accepted, stated_refused, stated_run}
use Rattle.ccso.proofs.apply.apply_edge_gated.Goals as goal

pub returns-in_err-check : goal.returns-in_err-check
returns-in_err-check c = rw (handed _ c.from_residual.ensures) (stated_refused _ _ _ _ _ c.in_err-check.ensures)

pub run-requires : goal.run-requires
run-requires c = let p = accepted _ _ _ _ _ (sym c.in_ok-check.ensures) in record { ranges = p.0; ccso_fits = p.1 }

pub returns : goal.returns
returns c = stated_run _ _ _ _ _ _ c.in_ok-check.ensures c.run.ensures
