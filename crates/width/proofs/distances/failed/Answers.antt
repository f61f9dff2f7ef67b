-- `distances::failed` is what belongs to the distance.
-- Assumes nothing.
use Rattle.width.proofs.Stands.{distances as needs}
use Rattle.width.proofs.distances.failed.Goals as goal

pub returns-in-4 : goal.returns-in-4
returns-in-4 c = search needs

pub returns-in-6 : goal.returns-in-6
returns-in-6 c = search needs

pub returns-in_default : goal.returns-in_default
returns-in_default c = search needs
