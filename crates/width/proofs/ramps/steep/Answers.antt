-- `ramps::steep` meets its contract: either ramp by the larger sum of two slopes against twice the limit.
-- Assumes nothing.
use Rattle.rules.specs.Width.{steep_of}
use Rattle.width.proofs.Averages.{larger_is}
use Rattle.width.proofs.ramps.steep.Goals as goal

pub returns : goal.returns
unfolding steep_of
returns c = larger_is _ _ _ _ _ _ c.slopes.ensures.0 c.slopes_counted.ensures c.max.ensures
