-- `count_no_case` counts a line that can't be read. Assumes nothing.
use Rattle.tally.proofs.Counting.{counting}
use Rattle.tally.proofs.Tally.count_no_case.Goals as goal

pub returns-then-not-read : goal.returns-then-not-read
returns-then-not-read c = search counting

pub returns-else-not-read : goal.returns-else-not-read
returns-else-not-read c = search counting
