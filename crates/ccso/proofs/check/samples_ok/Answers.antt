-- `samples_ok` looks through luma and then through the target. Assumes nothing.
use mathlib.Core.Path.{◌∙◌}
use Rattle.checks.proofs.Checks.{handed}
use Rattle.ccso.proofs.Lengths.{samples, luma_over, luma_low}
use Rattle.ccso.proofs.check.samples_ok.Goals as goal

pub returns-in_err-list_ok : goal.returns-in_err-list_ok
returns-in_err-list_ok c = handed _ c.from_residual.ensures ∙ luma_over _ _ _ _ c.top-top.ensures c.in_err-list_ok.ensures

pub halved-requires : goal.halved-requires
halved-requires c = search samples

pub halved-requires-2 : goal.halved-requires-2
halved-requires-2 c = search samples

pub list_ok-requires-2 : goal.list_ok-requires-2
list_ok-requires-2 c = search samples

pub returns : goal.returns
returns c = luma_low _ _ _ _ c.top-top.ensures _ _ _ c.in_ok-list_ok.ensures c.halved.ensures.0 c.halved-2.ensures.0 c.list_ok-2.ensures
