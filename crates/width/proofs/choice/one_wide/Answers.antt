-- `choice::one_wide` meets its contract: one test or another.
-- Assumes nothing.
use Rattle.width.specs.Tests.{one_of}
use Rattle.width.proofs.Picks.{ors}
use Rattle.width.proofs.choice.one_wide.Goals as goal

pub returns-then-p-eq1 : goal.returns-then-p-eq1
unfolding one_of
returns-then-p-eq1 c = search ors

pub returns-else-p-eq1 : goal.returns-else-p-eq1
unfolding one_of
returns-else-p-eq1 c = search ors
