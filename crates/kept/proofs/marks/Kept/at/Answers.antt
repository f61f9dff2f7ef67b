-- The mark of the sample's cell, whose number is at most the sample's offset. Assumes nothing.
use Rattle.rules.specs.Segment.{kept_in}
use Rattle.kept.proofs.marks.Kept.at.Goals as goal

pub returns : goal.returns
unfolding kept_in
returns c = c.marked.ensures
