-- `choice::bent` meets its contract: one test or another.
-- Assumes nothing.
use Rattle.width.proofs.Picks.{ors}
use Rattle.width.proofs.choice.bent.Goals as goal

pub returns-then-e_most-e : goal.returns-then-e_most-e
returns-then-e_most-e c = search ors

pub returns-else-e_most-e : goal.returns-else-e_most-e
returns-else-e_most-e c = search ors
