-- `distances::far` meets its contract. The loop keeps: d is a distance, and the tests from d on decide. It ends, since d grows up to 8.
-- Assumes nothing.
use Rattle.width.proofs.Stands.{Stands}
use Rattle.width.specs.Ends.{ends, Distance}
use Prim.Native.Nat.{◌-◌}
use Rattle.width.proofs.distances.far.Given as goal

abbrev pub invariant-loop-a : goal.invariant-loop-a
invariant-loop-a l = Distance l.d × Stands (ends l.a l.b) l.n l.p l.q l.side l.g l.d

abbrev pub decreases-loop-a : goal.decreases-loop-a
decreases-loop-a l = 10 - l.d
