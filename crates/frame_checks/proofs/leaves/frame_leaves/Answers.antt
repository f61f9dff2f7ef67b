-- `frame_leaves` looks through luma's, chroma's and the skip leaves in turn. Assumes nothing.
use mathlib.Core.Path.{◌∙◌}
use Rattle.checks.proofs.Checks.{handed, stop, go_on}
use Rattle.frame_checks.proofs.leaves.frame_leaves.Goals as goal

pub returns-in_err-list_leaves : goal.returns-in_err-list_leaves
returns-in_err-list_leaves c = handed _ c.from_residual.ensures ∙ stop _ _ c.in_err-list_leaves.ensures

pub returns-in_err-list_leaves-2 : goal.returns-in_err-list_leaves-2
returns-in_err-list_leaves-2 c = handed _ c.from_residual-in_err-list_leaves-2.ensures ∙ go_on _ _ _ c.in_ok-list_leaves.ensures (stop _ _ c.in_err-list_leaves-2.ensures)

pub returns : goal.returns
returns c = go_on _ _ _ c.in_ok-list_leaves.ensures (go_on _ _ _ c.in_ok-list_leaves-2.ensures c.list_leaves-3.ensures)
