-- `padded` is what its row says. Assumes nothing.
use Rattle.y4m.proofs.Filling.{filling as needs}
use Rattle.y4m.proofs.samples.padded.Goals as goal

pub returns-then-k-width : goal.returns-then-k-width
returns-then-k-width c = search needs

pub returns : goal.returns
returns c = search needs
