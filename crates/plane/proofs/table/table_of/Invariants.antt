-- `table_of` fills the table place by place. Assumes nothing.
use mathlib.Core.Path.{◌≡◌}
use Prim.Native.Nat.{◌-◌, ◌≤◌}
use native.Mathlib.Omega.{arith}
use borrow.Author.Rules.{rules}
use lib.ListN.{length}
use Rattle.laws.specs.Loops.{filled, filled_none, filled_more}
use Rattle.plane.specs.Run.{table_at}
use Rattle.plane.proofs.Tables.{table_is}
use Rattle.plane.proofs.table.table_of.Given as goal

abbrev pub invariant-loop-k : goal.invariant-loop-k
invariant-loop-k l = (l.k ≤ 2440) × (length l.initial.table ≡ 2440) × (l.table ≡ filled l.initial.table (table_at l.levels l.tiles) l.k)

abbrev pub decreases-loop-k : goal.decreases-loop-k
decreases-loop-k l = 2440 - l.k
