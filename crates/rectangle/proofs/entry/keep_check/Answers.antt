-- `keep_check` makes the checks 2, 3 and 6 in this order. Assumes nothing.
use Rattle.laws.specs.Choose.{told}
use Rattle.rules.specs.Keep.{keep_check}
use Rattle.checks.proofs.Checks.{checks}
use Rattle.rectangle.proofs.Checked.{keep_cells}
use Rattle.rectangle.proofs.entry.keep_check.Goals as goal

pub returns-then-not-cells_ok : goal.returns-then-not-cells_ok
unfolding keep_check
returns-then-not-cells_ok c = search checks

pub overflow_mul-n : goal.overflow_mul-n
overflow_mul-n c = search (told, keep_cells)

pub returns-then-keep-n : goal.returns-then-keep-n
unfolding keep_check
returns-then-keep-n c = search checks

pub returns-in-Some : goal.returns-in-Some
unfolding keep_check
returns-in-Some c = search checks

pub returns : goal.returns
unfolding keep_check
returns c = search checks
