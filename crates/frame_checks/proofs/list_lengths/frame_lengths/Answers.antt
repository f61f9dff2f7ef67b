-- `frame_lengths` is luma's lists, chroma's, then those that are only read. Assumes nothing.
use mathlib.Core.Path.{◌∙◌}
use Rattle.rules.specs.Frame.{frame_lengths}
use Rattle.frame_checks.proofs.Accepted.{frame_sized, luma_sizes}
use Rattle.checks.proofs.Checks.{handed, stop, go_on, unless_bad, unless_good}
use Rattle.laws.specs.Choose.{told_yes, told_no}
use Rattle.frame_checks.proofs.list_lengths.frame_lengths.Goals as goal

pub luma_long-requires : goal.luma_long-requires
luma_long-requires c = (frame_sized _ c.requires, luma_sizes _ c.requires)

pub returns-then-not-luma_long : goal.returns-then-not-luma_long
unfolding frame_lengths
returns-then-not-luma_long c = stop _ _ (unless_bad _ _ (told_no _ _ c.luma_long.ensures c.if-not-luma_long.true))

pub returns-in_err-chroma_lengths : goal.returns-in_err-chroma_lengths
unfolding frame_lengths
returns-in_err-chroma_lengths c = handed _ c.from_residual.ensures ∙ go_on _ _ _ (unless_good _ _ (told_yes _ _ c.luma_long.ensures c.if-not-luma_long.false)) (stop _ _ c.in_err-chroma_lengths.ensures)

pub given_long-requires : goal.given_long-requires
given_long-requires c = frame_sized _ c.requires

pub returns-then-not-given_long : goal.returns-then-not-given_long
unfolding frame_lengths
returns-then-not-given_long c = go_on _ _ _ (unless_good _ _ (told_yes _ _ c.luma_long.ensures c.if-not-luma_long.false)) (go_on _ _ _ c.in_ok-chroma_lengths.ensures (unless_bad _ _ (told_no _ _ c.given_long.ensures c.if-not-given_long.true)))

pub returns : goal.returns
unfolding frame_lengths
returns c = go_on _ _ _ (unless_good _ _ (told_yes _ _ c.luma_long.ensures c.if-not-luma_long.false)) (go_on _ _ _ c.in_ok-chroma_lengths.ensures (unless_good _ _ (told_yes _ _ c.given_long.ensures c.if-not-given_long.false)))
