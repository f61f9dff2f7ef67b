-- `same` compares an answer. Assumes nothing.
use Rattle.tally.specs.Counts.{is_answer}
use Rattle.tally.proofs.same.Goals as goal

pub returns-in-Ok : goal.returns-in-Ok
unfolding is_answer
returns-in-Ok c = rw c.in-Ok.is

pub returns-in-Err : goal.returns-in-Err
unfolding is_answer
returns-in-Err c = rw c.in-Err.is c.refused.ensures
