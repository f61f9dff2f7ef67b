-- `marks` is all zero. Assumes nothing.
use mathlib.Core.Path.{refl}
use Rattle.frame_by_settings.specs.Deblocked.{zeros}
use Rattle.frame_by_settings.proofs.deblocking.marks.Goals as goal

pub returns : goal.returns
unfolding zeros
returns c = refl
