-- `starts_tile` meets its contract: the invariant says that no start passed is the column. Assumes nothing.
use mathlib.Core.Path.{◌≡◌}
use mathlib.Core.Bool.{false}
use Prim.Native.Nat.{◌≤◌, ◌-◌}
use lib.ListN.{length}
use Rattle.rules.specs.Plane.{starts_tile}
use Rattle.cell_edges.proofs.Columns.{starting as needs}
use Rattle.cell_edges.proofs.starts.starts_tile.Goals as goal

pub loop-k-init : goal.loop-k-init
loop-k-init c = search needs

pub returns-then-wide-c : goal.returns-then-wide-c
returns-then-wide-c c = search needs

pub loop-k-preserved : goal.loop-k-preserved
loop-k-preserved c = search needs
