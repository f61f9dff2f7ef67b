-- `read_answer` reads a number and then a place. Assumes nothing.
use Rattle.text.specs.Typed.{answered_at}
use Rattle.text.proofs.typed.read_answer.Goals as goal

pub returns : goal.returns
unfolding answered_at
returns c = cc
