-- `offset_sample` limits a sample with its offset. Assumes nothing.
use Rattle.ccso_sample.proofs.Offsets.{moves}
use Rattle.ccso_sample.proofs.sample.offset_sample.Goals as goal

pub returns : goal.returns
returns c = search moves
