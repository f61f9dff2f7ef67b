-- `frame_keep` is luma's marks, then chroma's. Assumes nothing.
use mathlib.Core.Path.{◌∙◌}
use Rattle.rules.specs.Refusals.{only_if}
use Rattle.rules.specs.Frame.{frame_keep}
use Rattle.checks.proofs.Checks.{handed, stop, go_on}
use Rattle.frame_checks.proofs.keep.frame_keep.Goals as goal

pub returns-in_err-kind_keep : goal.returns-in_err-kind_keep
unfolding frame_keep only_if
returns-in_err-kind_keep c = handed _ c.from_residual.ensures ∙ stop _ _ c.in_err-kind_keep.ensures

pub returns : goal.returns
unfolding frame_keep only_if
returns c = go_on _ _ _ c.in_ok-kind_keep.ensures c.kind_keep-2.ensures
