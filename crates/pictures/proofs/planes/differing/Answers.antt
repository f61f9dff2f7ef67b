-- `differing` counts the pairs that differ. Assumes nothing.
use Rattle.pictures.proofs.Changing.{counted}
use Rattle.pictures.proofs.planes.differing.Goals as goal

pub returns : goal.returns
returns c = counted _ _ _ c.pairs_differing.ensures
