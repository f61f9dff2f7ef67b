-- `kind_keep` is refusal 6 at the first bad keep mark of a plane's cells, where that is filtered. Assumes nothing.
use mathlib.Core.Path.{refl}
use Rattle.rules.specs.declared.refusals.Refusal.TheVariants.{Cell}
use Rattle.laws.specs.Choose.{told_yes, told_no}
use Rattle.checks.proofs.Checks.{found_bad_by, found_good_by, only_yes, only_no}
use Rattle.frame_checks.proofs.keep.kind_keep.Goals as goal

pub returns-then-not-kind_on : goal.returns-then-not-kind_on
returns-then-not-kind_on c = only_no _ _ (told_no _ _ c.kind_on.ensures c.if-not-kind_on.true)

pub returns-in-Some : goal.returns-in-Some
returns-in-Some c =
    only_yes _ _ _ (told_yes _ _ c.kind_on.ensures c.if-not-kind_on.false)
    (found_bad_by _ _ Cell _ (rw c.plane_of-s.ensures at c.bad_keep.ensures) c.in-Some.is refl)

pub returns-in-None : goal.returns-in-None
returns-in-None c =
    only_yes _ _ _ (told_yes _ _ c.kind_on.ensures c.if-not-kind_on.false)
    (found_good_by _ _ Cell (rw c.plane_of-s.ensures at c.bad_keep.ensures) c.in-None.is)
