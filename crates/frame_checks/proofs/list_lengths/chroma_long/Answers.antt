-- `chroma_long` tests both chroma planes and their grid. Assumes nothing.
use Rattle.rules.specs.Frame.{chroma_long}
use Rattle.laws.specs.Choose.{all_bad, all_ok, all_last, told_yes, told_no}
use Rattle.frame_checks.proofs.list_lengths.chroma_long.Goals as goal

pub returns-then-not-samples_long : goal.returns-then-not-samples_long
unfolding chroma_long
returns-then-not-samples_long c = all_bad _ _ (told_no _ _ (rw c.plane_of-s.ensures at c.samples_long.ensures) c.if-not-samples_long.true)

pub returns-then-not-samples_long-2 : goal.returns-then-not-samples_long-2
unfolding chroma_long
returns-then-not-samples_long-2 c = all_ok _ _ _ (told_yes _ _ (rw c.plane_of-s.ensures at c.samples_long.ensures) c.if-not-samples_long.false) (all_bad _ _ (told_no _ _ (rw c.plane_of-s.ensures at c.samples_long-2.ensures) c.if-not-samples_long-2.true))

pub returns : goal.returns
unfolding chroma_long
returns c =
    let is = c.plane_of-s.ensures in
    all_ok _ _ _ (told_yes _ _ (rw is at c.samples_long.ensures) c.if-not-samples_long.false)
    (all_ok _ _ _ (told_yes _ _ (rw is at c.samples_long-2.ensures) c.if-not-samples_long-2.false) (all_last _ _ (rw is at c.grid_long.ensures)))
