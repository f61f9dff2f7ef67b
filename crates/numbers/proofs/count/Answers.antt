-- `count` is a number of the list as a count. Assumes nothing.
use Rattle.numbers.proofs.Listed.{count_read}
use Rattle.numbers.proofs.count.Goals as goal

pub returns : goal.returns
returns c = count_read _ _ (record { sfits = c.number.type_inv }) c.number.ensures c.from_zero.ensures
