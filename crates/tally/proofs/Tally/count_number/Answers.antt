-- `count_number` counts a case by its number. Assumes nothing.
use Rattle.tally.proofs.Counting.{counting}
use Rattle.tally.proofs.Tally.count_number.Goals as goal

pub returns-then-number-lt21 : goal.returns-then-number-lt21
returns-then-number-lt21 c = search counting

pub returns-else-number-lt21 : goal.returns-else-number-lt21
returns-else-number-lt21 c = search counting
