-- `number` is a number of the list. Assumes nothing.
use Rattle.numbers.proofs.Listed.{listed}
use Rattle.numbers.proofs.number.Goals as goal

pub returns : goal.returns
returns c = search listed
