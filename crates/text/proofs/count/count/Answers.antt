-- `count` counts, a letter a turn. Assumes nothing.
use Rattle.text.proofs.Counting.{counting as needs}
use Rattle.text.proofs.count.count.Goals as goal

pub loop-at-init : goal.loop-at-init
loop-at-init c = search needs

pub loop-at-preserved : goal.loop-at-preserved
loop-at-preserved c = search needs

pub returns : goal.returns
returns c = search needs
