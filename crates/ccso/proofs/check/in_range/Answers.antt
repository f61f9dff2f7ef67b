-- `in_range` tests a signed number by its two counts. Assumes nothing.
use Rattle.ccso.proofs.Ranged.{split_below, split_above}
use Rattle.ccso.proofs.check.in_range.Goals as goal

pub returns-then-low-g : goal.returns-then-low-g
returns-then-low-g c = split_below _ _ _ c.ranges.v _ c.from-g.ensures.1 c.if-low-g.true

pub returns : goal.returns
returns c = split_above _ _ _ c.ranges.v _ c.from-g.ensures.1 _ c.from-g.ensures.0 c.if-low-g.false
