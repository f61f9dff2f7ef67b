-- `luma_ok` tests size, subsampling and luma's stride. Assumes nothing.
use Rattle.frame_checks.proofs.Accepted.{size_by}
use Rattle.laws.specs.Choose.{all_bad, all_ok, all_last, told_yes, told_no}
use Rattle.frame_checks.proofs.sizes.luma_ok.Goals as goal

pub returns-then-not-in_range : goal.returns-then-not-in_range
returns-then-not-in_range c = all_bad _ _ (told_no _ _ c.in_range.ensures c.if-not-in_range.true)

pub returns-then-not-in_range-2 : goal.returns-then-not-in_range-2
returns-then-not-in_range-2 c = all_ok _ _ _ (told_yes _ _ c.in_range.ensures c.if-not-in_range.false) (all_bad _ _ (told_no _ _ c.in_range-2.ensures c.if-not-in_range-2.true))

pub returns-then-not-subsampling_ok : goal.returns-then-not-subsampling_ok
returns-then-not-subsampling_ok c = all_ok _ _ _ (told_yes _ _ c.in_range.ensures c.if-not-in_range.false) (all_ok _ _ _ (told_yes _ _ c.in_range-2.ensures c.if-not-in_range-2.false) (all_bad _ _ (told_no _ _ c.subsampling_ok.ensures c.if-not-subsampling_ok.true)))

pub stride_ok-requires : goal.stride_ok-requires
stride_ok-requires c = size_by _ c.in_range.ensures c.if-not-in_range.false-raw c.in_range-2.ensures c.if-not-in_range-2.false-raw c.subsampling_ok.ensures c.if-not-subsampling_ok.false-raw

pub returns : goal.returns
returns c =
    all_ok _ _ _
    (told_yes _ _ c.in_range.ensures c.if-not-in_range.false)
    (all_ok _ _ _ (told_yes _ _ c.in_range-2.ensures c.if-not-in_range-2.false) (all_ok _ _ _ (told_yes _ _ c.subsampling_ok.ensures c.if-not-subsampling_ok.false) (all_last _ _ c.stride_ok.ensures)))
