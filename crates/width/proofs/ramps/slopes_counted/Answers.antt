-- Counted, or not.
use Rattle.width.proofs.Picks.{count_le, count_gt}
use Rattle.width.proofs.ramps.slopes_counted.Goals as goal

pub returns-then-n-k : goal.returns-then-n-k
returns-then-n-k c = count_gt _ _ _ c.if-n-k.true

pub returns-else-n-k : goal.returns-else-n-k
returns-else-n-k c = count_le _ _ _ c.if-n-k.false c.slopes-x.ensures.0
