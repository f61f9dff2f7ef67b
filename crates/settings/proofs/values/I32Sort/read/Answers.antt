-- `read` of a number with a sign is what its callee reads. Assumes nothing.
use Rattle.settings.proofs.Taking.{reading}
use Rattle.settings.proofs.values.I32Sort.read.Goals as goal

pub returns : goal.returns
returns c = search reading
