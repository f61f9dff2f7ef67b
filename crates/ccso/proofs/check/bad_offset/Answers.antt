-- `bad_offset`'s loop: no offset so far is bad. Assumes nothing.
use Rattle.ccso.proofs.Lengths.{offsets_first as needs}
use Rattle.ccso.proofs.check.bad_offset.Goals as goal

pub loop-k-init : goal.loop-k-init
loop-k-init c = search needs

pub returns-then-not-in_range : goal.returns-then-not-in_range
returns-then-not-in_range c = search needs

pub loop-k-preserved : goal.loop-k-preserved
loop-k-preserved c = search needs
