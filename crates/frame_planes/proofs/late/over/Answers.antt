-- `over` is refusal 8 at the first sample of the plane above top, where it is filtered. Assumes nothing.
use mathlib.Core.Path.{refl}
use Rattle.rules.specs.declared.refusals.Refusal.TheVariants.{Sample}
use Rattle.laws.specs.Choose.{told_yes, told_no}
use Rattle.checks.proofs.Checks.{found_bad_by, found_good_by, only_yes, only_no}
use Rattle.frame_planes.proofs.late.over.Goals as goal

pub returns-then-not-kind_on : goal.returns-then-not-kind_on
returns-then-not-kind_on c = only_no _ _ (told_no _ _ c.kind_on.ensures c.if-not-kind_on.true)

pub returns-in-Some : goal.returns-in-Some
returns-in-Some c =
    only_yes _ _ _ (told_yes _ _ c.kind_on.ensures c.if-not-kind_on.false)
    (found_bad_by _ _ Sample _ (rw c.plane_of.ensures at c.over_plane-bad.ensures) c.in-Some.is refl)

pub returns : goal.returns
returns c =
    only_yes _ _ _ (told_yes _ _ c.kind_on.ensures c.if-not-kind_on.false)
    (found_good_by _ _ Sample (rw c.plane_of.ensures at c.over_plane-bad.ensures) c.in_default.is)
