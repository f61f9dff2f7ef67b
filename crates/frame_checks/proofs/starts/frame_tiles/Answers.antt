-- `frame_tiles` is luma's list, then chroma's. Assumes nothing.
use mathlib.Core.Path.{◌∙◌}
use Rattle.rules.specs.Refusals.{only_if}
use Rattle.rules.specs.Frame.{frame_tiles}
use Rattle.checks.proofs.Checks.{handed, stop, go_on}
use Rattle.frame_checks.proofs.starts.frame_tiles.Goals as goal

pub returns-in_err-kind_tiles : goal.returns-in_err-kind_tiles
unfolding frame_tiles only_if
returns-in_err-kind_tiles c = handed _ c.from_residual.ensures ∙ stop _ _ c.in_err-kind_tiles.ensures

pub returns : goal.returns
unfolding frame_tiles only_if
returns c = go_on _ _ _ c.in_ok-kind_tiles.ensures c.kind_tiles-2.ensures
