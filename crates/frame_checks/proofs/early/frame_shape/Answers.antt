-- `frame_shape` leaves at the first check that refuses: depth, sizes, lengths. Assumes nothing.
use mathlib.Core.Path.{◌∙◌}
use Rattle.rules.specs.Frame.{frame_shape}
use Rattle.checks.proofs.Checks.{handed, stop, go_on, unless_bad, unless_good}
use Rattle.laws.specs.Choose.{told_yes, told_no}
use Rattle.frame_checks.proofs.early.frame_shape.Goals as goal

pub returns-then-not-is : goal.returns-then-not-is
unfolding frame_shape
returns-then-not-is c = stop _ _ (unless_bad _ _ (told_no _ _ c.is.ensures c.if-not-is.true))

pub returns-in_err-frame_sizes : goal.returns-in_err-frame_sizes
unfolding frame_shape
returns-in_err-frame_sizes c = handed _ c.from_residual.ensures ∙ go_on _ _ _ (unless_good _ _ (told_yes _ _ c.is.ensures c.if-not-is.false)) (stop _ _ c.in_err-frame_sizes.ensures)

pub returns : goal.returns
unfolding frame_shape
returns c = go_on _ _ _ (unless_good _ _ (told_yes _ _ c.is.ensures c.if-not-is.false)) (go_on _ _ _ c.in_ok-frame_sizes.ensures c.frame_lengths.ensures)
