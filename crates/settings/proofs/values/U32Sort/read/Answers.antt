-- `read` of a number of four bytes is what its callee reads. Assumes nothing.
use Rattle.settings.proofs.Taking.{reading}
use Rattle.settings.proofs.values.U32Sort.read.Goals as goal

pub returns : goal.returns
returns c = search reading
