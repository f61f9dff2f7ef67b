-- `choice::filt_choice` meets its contract: only lines 0 and 3 decide.
-- Assumes nothing.
use Rattle.width.proofs.Order.{choices}
use Rattle.width.proofs.choice.filt_choice.Goals as goal

pub returns : goal.returns
returns c = search choices
