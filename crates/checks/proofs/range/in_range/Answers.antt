-- `in_range` makes both tests. Assumes nothing.
use Rattle.laws.specs.Choose.{tests}
use Rattle.rules.specs.Numbers.{in_range}
use Rattle.checks.proofs.range.in_range.Goals as goal

pub returns-then-low-n : goal.returns-then-low-n
unfolding in_range
returns-then-low-n c = search tests

pub returns-else-low-n : goal.returns-else-low-n
unfolding in_range
returns-else-low-n c = search tests
