-- `read_counted` reads an answer and then two counts. Assumes nothing.
use Rattle.text.specs.Typed.{counted_at}
use Rattle.text.proofs.typed.read_counted.Goals as goal

pub returns : goal.returns
unfolding counted_at
returns c = cc
