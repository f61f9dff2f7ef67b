-- `next` adds one as 64 bits hold it. Assumes nothing.
use Rattle.std.proofs.Common.{rules}
use Rattle.tally.specs.Counts.{next_of}
use Rattle.tally.proofs.next.Goals as goal

pub returns : goal.returns
unfolding next_of
returns c = search rules
