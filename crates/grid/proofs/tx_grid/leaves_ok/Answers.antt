-- `leaves_ok` looks through the leaves, then through the skip leaves. Assumes nothing.
use mathlib.Core.Path.{◌∙◌}
use Rattle.checks.proofs.Checks.{handed, stop, go_on}
use Rattle.grid.proofs.tx_grid.leaves_ok.Goals as goal

pub returns-in_err-list_ok : goal.returns-in_err-list_ok
returns-in_err-list_ok c = handed _ c.from_residual.ensures ∙ stop _ _ c.in_err-list_ok.ensures

pub returns : goal.returns
returns c = go_on _ _ _ c.in_ok-list_ok.ensures c.list_ok-2.ensures
