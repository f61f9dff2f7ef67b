-- `count_width` counts a width. Assumes nothing.
use Rattle.tally.proofs.Counting.{counting}
use Rattle.tally.proofs.Tally.count_width.Goals as goal

pub returns-then-samples-lt9 : goal.returns-then-samples-lt9
returns-then-samples-lt9 c = search counting

pub returns-else-samples-lt9 : goal.returns-else-samples-lt9
returns-else-samples-lt9 c = search counting
