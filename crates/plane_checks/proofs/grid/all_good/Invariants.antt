-- `all_good` tests the largest mark and the largest size index: the invariant says that both are those of the cells passed. Assumes nothing.
use mathlib.Core.Path.{◌≡◌}
use Prim.Native.Nat.{◌-◌, ◌≤◌}
use Rattle.plane_checks.proofs.Marks.{most_mark, most_index, mark_more, index_more, larges as needs}
use Rattle.plane_checks.proofs.grid.all_good.Given as goal

abbrev pub invariant-loop-k : goal.invariant-loop-k
invariant-loop-k l = (l.k ≤ l.count) × (l.mark ≡ most_mark l.vedge l.hedge l.keep l.k) × (l.size ≡ most_index l.sqw l.sqh l.k)

abbrev pub decreases-loop-k : goal.decreases-loop-k
decreases-loop-k l = l.count - l.k
