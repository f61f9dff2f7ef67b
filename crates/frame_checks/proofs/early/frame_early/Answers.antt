-- `frame_early` is the checks 1, 2, 3, then 4, 5, 9, then 6. Assumes nothing.
use mathlib.Core.Path.{refl, ◌∙◌}
use Rattle.rules.specs.Frame.{frame_early}
use Rattle.checks.proofs.Checks.{handed, stop, go_on}
use Rattle.frame_checks.proofs.Accepted.{shape_sized, luma_keep, chroma_keep}
use Rattle.frame_checks.proofs.early.frame_early.Goals as goal

pub returns-in_err-frame_shape : goal.returns-in_err-frame_shape
unfolding frame_early
returns-in_err-frame_shape c = λ q. handed _ c.from_residual.ensures ∙ stop _ _ c.in_err-frame_shape.ensures

pub frame_given-requires : goal.frame_given-requires
frame_given-requires c = shape_sized _ _ c.in_ok-frame_shape.ensures refl

pub returns-in_err-frame_given : goal.returns-in_err-frame_given
unfolding frame_early
returns-in_err-frame_given c = λ q. handed _ c.from_residual-in_err-frame_given.ensures ∙ go_on _ _ _ c.in_ok-frame_shape.ensures (stop _ _ (c.in_err-frame_given.ensures q))

pub frame_keep-requires : goal.frame_keep-requires
frame_keep-requires c =
    let is = c.in_ok-frame_shape.ensures in
    let p = c.requires in
    (luma_keep _ _ is refl p.0, chroma_keep _ _ is refl p.1)

pub returns : goal.returns
unfolding frame_early
returns c = λ q. go_on _ _ _ c.in_ok-frame_shape.ensures (go_on _ _ _ (c.in_ok-frame_given.ensures q) c.frame_keep.ensures)
