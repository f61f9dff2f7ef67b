-- Each test in its order.
use Rattle.laws.specs.Choose.{tests as needs}
use Rattle.rules.specs.Segment.{ranges_ok}
use Rattle.lengths.proofs.ranges.ranges_ok.Goals as goal

pub returns-then-e-le7 : goal.returns-then-e-le7
unfolding ranges_ok
returns-then-e-le7 c = search needs

pub returns-else-e-le7 : goal.returns-else-e-le7
unfolding ranges_ok
returns-else-e-le7 c = search needs
