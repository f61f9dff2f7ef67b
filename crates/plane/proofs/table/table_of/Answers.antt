-- `table_of` fills the table place by place. Assumes nothing.
use mathlib.Core.Path.{◌≡◌}
use Prim.Native.Nat.{◌-◌, ◌≤◌}
use native.Mathlib.Omega.{arith}
use borrow.Author.Rules.{rules}
use lib.ListN.{length}
use Rattle.laws.specs.Loops.{filled, filled_none, filled_more}
use Rattle.plane.specs.Run.{table_at}
use Rattle.plane.proofs.Tables.{table_is}
use Rattle.plane.proofs.table.table_of.Goals as goal

pub loop-k-init : goal.loop-k-init
loop-k-init c = (omega arith, search rules, search filled_none)

pub loop-k-preserved : goal.loop-k-preserved
loop-k-preserved c = (omega arith, search rules, filled_more _ _ _ c.loop-k.invariant.2 (rw c.entry_of.ensures))

pub returns : goal.returns
returns c =
    let inv = c.loop-k.invariant in
    table_is _ _ _ _ inv.1 (omega arith) inv.2
