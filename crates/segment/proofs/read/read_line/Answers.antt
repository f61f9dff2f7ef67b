-- Both sides.
use Rattle.segment.specs.Near.{near_line}
use Rattle.segment.proofs.read.read_line.Goals as goal

pub returns : goal.returns
unfolding near_line
returns c = cc
