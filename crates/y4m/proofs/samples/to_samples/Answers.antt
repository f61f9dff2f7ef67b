-- `to_samples` fills the row place by place. Assumes nothing.
use Rattle.y4m.proofs.Filling.{filling as needs}
use Rattle.y4m.proofs.samples.to_samples.Goals as goal

pub loop-k-init : goal.loop-k-init
loop-k-init c = search needs

pub loop-k-preserved : goal.loop-k-preserved
loop-k-preserved c = search needs
