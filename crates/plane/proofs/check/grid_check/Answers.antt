-- `grid_check` meets its contract. Assumes nothing.
use borrow.Author.Rules.{rules}
use mathlib.Core.Path.{refl}
use Rattle.checks.proofs.Checks.{stop, go_on, found_bad_by, found_good_by}
use Rattle.plane.specs.Checked.{grid_check}
use Rattle.plane.proofs.Accepting.{readies}
use Rattle.plane.proofs.check.grid_check.Goals as goal

pub returns-in-Some : goal.returns-in-Some
unfolding grid_check
returns-in-Some c = λ q. stop _ _ (found_bad_by _ _ _ _ (c.bad_cell-bad.ensures q _) (search rules) refl)

pub no_room-narrow-requires : goal.no_room-narrow-requires
no_room-narrow-requires c = readies _ _ _ _ _ c.requires.0 c.requires.1 c.bad_cell-bad.ensures (search rules)

pub returns-in-Some-narrow : goal.returns-in-Some-narrow
unfolding grid_check
returns-in-Some-narrow c = λ q. go_on _ _ _ (found_good_by _ _ _ (c.bad_cell-bad.ensures q _) (search rules)) (found_bad_by _ _ _ _ (c.no_room-narrow.ensures q _) (search rules) refl)

pub returns : goal.returns
unfolding grid_check
returns c = λ q. go_on _ _ _ (found_good_by _ _ _ (c.bad_cell-bad.ensures q _) (search rules)) (found_good_by _ _ _ (c.no_room-narrow.ensures q _) (search rules))
