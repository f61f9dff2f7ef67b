-- `wide_sample` is what its row says. Assumes nothing.
use Rattle.y4m.proofs.Filling.{filling as needs}
use Rattle.y4m.proofs.samples.wide_sample.Goals as goal

pub returns : goal.returns
returns c = search needs
