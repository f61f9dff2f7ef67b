-- `distances::far` meets its contract. The loop keeps: d is a distance, and the tests from d on decide. It ends, since d grows up to 8.
-- Assumes nothing.
use Rattle.width.proofs.Stands.{stands as needs}
use Rattle.width.proofs.distances.far.Goals as goal

pub loop-a-init : goal.loop-a-init
loop-a-init c = search needs

pub loop-a-preserved : goal.loop-a-preserved
loop-a-preserved c = search needs

pub returns-then-fails : goal.returns-then-fails
returns-then-fails c = search needs

pub returns-then-p-d : goal.returns-then-p-d
returns-then-p-d c = search needs
