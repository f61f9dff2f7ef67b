-- `room` is refusal 7 at the first edge of the plane that lacks room, where it is filtered. Assumes nothing.
use mathlib.Core.Path.{refl}
use Rattle.rules.specs.declared.refusals.Refusal.TheVariants.{Room}
use Rattle.laws.specs.Choose.{told_yes, told_no}
use Rattle.checks.proofs.Checks.{found_bad_by, found_good_by, only_yes, only_no}
use Rattle.frame_planes.proofs.late.room.Goals as goal

pub returns-then-not-kind_on : goal.returns-then-not-kind_on
returns-then-not-kind_on c = λ q ks. only_no _ _ (told_no _ _ c.kind_on.ensures c.if-not-kind_on.true)

pub returns-in-Some : goal.returns-in-Some
returns-in-Some c =
    λ q ks. only_yes _ _ _ (told_yes _ _ c.kind_on.ensures c.if-not-kind_on.false)
    (found_bad_by _ _ Room _ (rw c.plane_of.ensures at (c.no_room-bad.ensures q ks)) c.in-Some.is refl)

pub returns : goal.returns
returns c =
    λ q ks. only_yes _ _ _ (told_yes _ _ c.kind_on.ensures c.if-not-kind_on.false)
    (found_good_by _ _ Room (rw c.plane_of.ensures at (c.no_room-bad.ensures q ks)) c.in_default.is)
