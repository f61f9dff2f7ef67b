-- `count_unread` counts a line more. Assumes nothing.
use Rattle.tally.proofs.Counting.{counting}
use Rattle.tally.proofs.Tally.count_unread.Goals as goal

pub returns : goal.returns
returns c = search counting
