-- `kind_tiles` tests a list by its plane's columns, where that is filtered. Assumes nothing.
use Rattle.laws.specs.Choose.{told_yes, told_no}
use Rattle.checks.proofs.Checks.{only_yes, only_no}
use Rattle.frame_checks.proofs.starts.kind_tiles.Goals as goal

pub returns-then-not-kind_on : goal.returns-then-not-kind_on
returns-then-not-kind_on c = only_no _ _ (told_no _ _ c.kind_on.ensures c.if-not-kind_on.true)

pub returns : goal.returns
returns c =
    only_yes _ _ _ (told_yes _ _ c.kind_on.ensures c.if-not-kind_on.false)
    (rw c.plane_of-s.ensures at c.tiles_check.ensures)
