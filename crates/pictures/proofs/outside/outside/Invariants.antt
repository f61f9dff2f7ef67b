-- `outside` walks to the first leaf beyond. Assumes nothing.
use Rattle.text.specs.Places.{seek}
use Rattle.pictures.specs.Outside.{beyond_at}
use Prim.Native.Nat.{◌-◌, ◌/◌}
use mathlib.Core.Path.{◌≡◌}
use lib.ListN.{length}
use Rattle.pictures.proofs.outside.outside.Given as goal

abbrev pub invariant-loop-k : goal.invariant-loop-k
invariant-loop-k l = (l.n ≡ length l.leaves / 4) × (seek (beyond_at l.rows l.columns l.leaves) l.k (l.n - l.k) ≡ seek (beyond_at l.rows l.columns l.leaves) 0 (l.n - 0))
