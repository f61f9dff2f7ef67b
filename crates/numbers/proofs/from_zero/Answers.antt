-- `from_zero` is the count of a signed number. Assumes nothing.
use Rattle.numbers.proofs.Listed.{count_or}
use Rattle.numbers.proofs.from_zero.Goals as goal

pub returns : goal.returns
returns c = count_or _ _ c.ranges.v c.try_from.ensures c.unwrap_or.ensures
