-- `to_bytes` fills the bytes place by place. Assumes nothing.
use Rattle.y4m.proofs.Filling.{filling as needs}
use Rattle.y4m.proofs.samples.to_bytes.Goals as goal

pub loop-i-init : goal.loop-i-init
loop-i-init c = search needs

pub loop-i-preserved : goal.loop-i-preserved
loop-i-preserved c = search needs
