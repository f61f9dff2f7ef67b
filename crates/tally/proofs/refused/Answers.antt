-- `refused` compares number and place. Assumes nothing.
use Rattle.tally.proofs.Counting.{counting}
use Rattle.tally.proofs.refused.Goals as goal

pub returns-then-number : goal.returns-then-number
returns-then-number c = search counting

pub returns : goal.returns
returns c = search counting
