-- `luma_long` tests luma's plane and grid. Assumes nothing.
use Rattle.rules.specs.Frame.{luma_long}
use Rattle.laws.specs.Choose.{both_bad, both_ok, told_yes, told_no}
use Rattle.frame_checks.proofs.list_lengths.luma_long.Goals as goal

pub returns-then-not-samples_long : goal.returns-then-not-samples_long
unfolding luma_long
returns-then-not-samples_long c = both_bad _ _ (told_no _ _ (rw c.plane_of-s.ensures at c.samples_long.ensures) c.if-not-samples_long.true)

pub returns : goal.returns
unfolding luma_long
returns c =
    let is = c.plane_of-s.ensures in
    both_ok _ _ _ (told_yes _ _ (rw is at c.samples_long.ensures) c.if-not-samples_long.false) (rw is at c.grid_long.ensures)
