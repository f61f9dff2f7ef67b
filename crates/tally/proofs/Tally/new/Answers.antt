-- `new` counts nothing. Assumes nothing.
use Rattle.std.proofs.Common.{rules}
use Rattle.tally.specs.Counts.{no_counts}
use Rattle.tally.proofs.Tally.new.Goals as goal

pub returns : goal.returns
unfolding no_counts
returns c = search rules
