-- `choice::two_wide` meets its contract: the test of the bends.
-- Assumes nothing.
use Rattle.width.specs.Tests.{two_of}
use Rattle.width.proofs.choice.two_wide.Goals as goal

pub returns : goal.returns
unfolding two_of
returns c = c.bent.ensures
