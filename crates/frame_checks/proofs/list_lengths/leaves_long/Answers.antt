-- `leaves_long` tests that each leaf list has four numbers a leaf. Assumes nothing.
use Rattle.laws.specs.Choose.{tests}
use Rattle.frame_checks.proofs.list_lengths.leaves_long.Goals as goal

pub returns-then-not-fours : goal.returns-then-not-fours
returns-then-not-fours c = search tests

pub returns-then-not-fours-2 : goal.returns-then-not-fours-2
returns-then-not-fours-2 c = search tests

pub returns : goal.returns
returns c = search tests
