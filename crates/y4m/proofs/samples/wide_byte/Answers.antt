-- `wide_byte` is what its row says. Assumes nothing.
use Rattle.y4m.proofs.Filling.{filling as needs}
use Rattle.y4m.proofs.samples.wide_byte.Goals as goal

pub returns-then-i-eq0 : goal.returns-then-i-eq0
returns-then-i-eq0 c = search needs

pub returns : goal.returns
returns c = search needs
