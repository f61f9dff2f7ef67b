-- `kind_ok` tests one kind's delta and both caps. Assumes nothing.
use Rattle.laws.specs.Choose.{all_bad, all_ok, all_last, told_yes, told_no}
use mir.Facts.{to_z-of_z}
use Rattle.frame_checks.proofs.deltas.kind_ok.Goals as goal

pub returns-then-not-delta_ok : goal.returns-then-not-delta_ok
returns-then-not-delta_ok c = let d = rw (to_z-of_z c.ranges.delta) at c.delta_ok.ensures in all_bad _ _ (told_no _ _ d c.if-not-delta_ok.true)

pub returns-then-not-cap_ok : goal.returns-then-not-cap_ok
returns-then-not-cap_ok c = let d = rw (to_z-of_z c.ranges.delta) at c.delta_ok.ensures in all_ok _ _ _ (told_yes _ _ d c.if-not-delta_ok.false) (all_bad _ _ (told_no _ _ c.cap_ok.ensures c.if-not-cap_ok.true))

pub returns : goal.returns
returns c = let d = rw (to_z-of_z c.ranges.delta) at c.delta_ok.ensures in all_ok _ _ _ (told_yes _ _ d c.if-not-delta_ok.false) (all_ok _ _ _ (told_yes _ _ c.cap_ok.ensures c.if-not-cap_ok.false) (all_last _ _ c.cap_ok-2.ensures))
