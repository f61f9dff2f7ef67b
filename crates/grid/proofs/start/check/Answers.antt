-- `check` makes the checks 2, 3, 5 and 9 in this order. Assumes nothing.
use mathlib.Core.Path.{refl}
use Rattle.checks.proofs.Checks.{go_on}
use Rattle.grid.specs.Start.{check_by}
use Rattle.grid.proofs.Checked.{checking as needs}
use Rattle.grid.proofs.start.check.Goals as goal

pub returns-then-not-sizes_ok : goal.returns-then-not-sizes_ok
unfolding check_by
returns-then-not-sizes_ok c = search needs

pub overflow_mul-s : goal.overflow_mul-s
overflow_mul-s c = search needs

pub returns-then-not-lists_long : goal.returns-then-not-lists_long
unfolding check_by
returns-then-not-lists_long c = search needs

pub returns-then-not-fours : goal.returns-then-not-fours
unfolding check_by
returns-then-not-fours c = search needs

pub returns-then-not-caps_ok : goal.returns-then-not-caps_ok
unfolding check_by
returns-then-not-caps_ok c = go_on _ _ _ (search needs) (go_on _ _ _ (search needs) (search needs))

pub returns : goal.returns
unfolding check_by
returns c = go_on _ _ _ (search needs) (go_on _ _ _ (search needs) (go_on _ _ _ (search needs) (go_on _ _ _ (search needs) refl)))
