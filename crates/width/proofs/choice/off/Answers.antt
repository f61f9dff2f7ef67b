-- `choice::off` meets its contract: one test or another.
-- Assumes nothing.
use Rattle.width.specs.Tests.{off_of}
use Rattle.width.proofs.Picks.{ors}
use Rattle.width.proofs.choice.off.Goals as goal

pub returns-then-q-eq0 : goal.returns-then-q-eq0
unfolding off_of
returns-then-q-eq0 c = search ors

pub returns-else-q-eq0 : goal.returns-else-q-eq0
unfolding off_of
returns-else-q-eq0 c = search ors
