-- `distances::q_limit` is what belongs to the distance.
-- Assumes nothing.
use Rattle.width.proofs.Stands.{distances}
use Rattle.width.proofs.distances.q_limit.Goals as goal

pub returns-in-4 : goal.returns-in-4
returns-in-4 c = search distances

pub returns-in-6 : goal.returns-in-6
returns-in-6 c = search distances

pub returns-in_default : goal.returns-in_default
returns-in_default c = search distances
