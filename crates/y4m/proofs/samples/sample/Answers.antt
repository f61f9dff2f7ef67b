-- `sample` is what its row says. Assumes nothing.
use Rattle.y4m.proofs.Filling.{filling as needs}
use Rattle.y4m.proofs.samples.sample.Goals as goal

pub returns-then-wide : goal.returns-then-wide
returns-then-wide c = search needs

pub returns : goal.returns
returns c = search needs
