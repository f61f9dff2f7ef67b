-- `starts_tile` meets its contract: the invariant says that no start passed is the column. Assumes nothing.
use mathlib.Core.Path.{◌≡◌}
use mathlib.Core.Bool.{false}
use Prim.Native.Nat.{◌≤◌, ◌-◌}
use lib.ListN.{length}
use Rattle.rules.specs.Plane.{starts_tile}
use Rattle.cell_edges.proofs.Columns.{starting as needs}
use Rattle.cell_edges.proofs.starts.starts_tile.Given as goal

abbrev pub invariant-loop-k : goal.invariant-loop-k
invariant-loop-k l = (l.k ≤ l.n) × (l.n ≡ length l.tiles) × (starts_tile l.tiles l.k l.c ≡ false)

abbrev pub decreases-loop-k : goal.decreases-loop-k
decreases-loop-k l = l.n - l.k
