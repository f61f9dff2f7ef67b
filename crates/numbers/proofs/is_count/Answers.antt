-- `is_count` is the sign of a number of the list. Assumes nothing.
use Rattle.numbers.proofs.Listed.{sign_read}
use Rattle.numbers.proofs.is_count.Goals as goal

pub returns : goal.returns
returns c = sign_read _ _ (record { sfits = c.number.type_inv }) c.number.ensures
