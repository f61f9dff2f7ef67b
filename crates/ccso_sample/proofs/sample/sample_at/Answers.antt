-- `sample_at` reads the offset at its place. Assumes nothing.
use Rattle.ccso_sample.proofs.Offsets.{moved_samples}
use Rattle.ccso_sample.proofs.sample.sample_at.Goals as goal

pub returns : goal.returns
returns c = search moved_samples
