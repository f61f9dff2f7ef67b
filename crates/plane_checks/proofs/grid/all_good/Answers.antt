-- `all_good` tests the largest mark and the largest size index: the invariant says that both are those of the cells passed. Assumes nothing.
use mathlib.Core.Path.{◌≡◌}
use Prim.Native.Nat.{◌-◌, ◌≤◌}
use Rattle.plane_checks.proofs.Marks.{most_mark, most_index, mark_more, index_more, larges as needs}
use Rattle.plane_checks.proofs.grid.all_good.Goals as goal

pub loop-k-init : goal.loop-k-init
loop-k-init c = search needs

pub loop-k-preserved : goal.loop-k-preserved
loop-k-preserved c =
    let inv = c.loop-k.invariant in
    let inner = c.max in
    let marks = c.max-in-loop-k in
    (search needs, mark_more _ _ _ _ inv.1 inner.ensures marks.ensures c.max-mark.ensures, index_more _ _ _ inv.2 c.max-in-loop-k-2.ensures c.max-size.ensures)

pub returns-then-mark-gt1 : goal.returns-then-mark-gt1
returns-then-mark-gt1 c = search needs

pub returns : goal.returns
returns c = search needs
