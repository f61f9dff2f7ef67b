-- `frame_sizes` is luma's sizes, then chroma's stride where chroma is filtered. Assumes nothing.
use Rattle.rules.specs.Frame.{frame_sizes}
use Rattle.frame_checks.proofs.Accepted.{sized_by}
use Rattle.checks.proofs.Checks.{stop, go_on, unless_bad, unless_good, only_yes, only_no}
use Rattle.laws.specs.Choose.{told_yes, told_no}
use Rattle.frame_checks.proofs.sizes.frame_sizes.Goals as goal

pub returns-then-not-luma_ok : goal.returns-then-not-luma_ok
unfolding frame_sizes
returns-then-not-luma_ok c = stop _ _ (unless_bad _ _ (told_no _ _ c.luma_ok.ensures c.if-not-luma_ok.true))

pub returns-then-not-chroma_on : goal.returns-then-not-chroma_on
unfolding frame_sizes
returns-then-not-chroma_on c = go_on _ _ _ (unless_good _ _ (told_yes _ _ c.luma_ok.ensures c.if-not-luma_ok.false)) (only_no _ _ (told_no _ _ c.chroma_on.ensures c.if-not-chroma_on.true))

pub stride_ok-requires : goal.stride_ok-requires
stride_ok-requires c = sized_by _ c.luma_ok.ensures c.if-not-luma_ok.false-raw

pub returns-then-not-stride_ok : goal.returns-then-not-stride_ok
unfolding frame_sizes
returns-then-not-stride_ok c = go_on _ _ _ (unless_good _ _ (told_yes _ _ c.luma_ok.ensures c.if-not-luma_ok.false)) (only_yes _ _ _ (told_yes _ _ c.chroma_on.ensures c.if-not-chroma_on.false) (unless_bad _ _ (told_no _ _ c.stride_ok.ensures c.if-not-stride_ok.true)))

pub returns : goal.returns
unfolding frame_sizes
returns c = go_on _ _ _ (unless_good _ _ (told_yes _ _ c.luma_ok.ensures c.if-not-luma_ok.false)) (only_yes _ _ _ (told_yes _ _ c.chroma_on.ensures c.if-not-chroma_on.false) (unless_good _ _ (told_yes _ _ c.stride_ok.ensures c.if-not-stride_ok.false)))
