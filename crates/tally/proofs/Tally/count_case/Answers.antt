-- `count_case` counts a case, and one that differs. Assumes nothing.
use Rattle.tally.proofs.Counting.{counting}
use Rattle.tally.proofs.Tally.count_case.Goals as goal

pub returns-then-not-same : goal.returns-then-not-same
returns-then-not-same c = search counting

pub returns-else-not-same : goal.returns-else-not-same
returns-else-not-same c = search counting
