-- `edge_count` meets its contract: the invariant says that the count so far is the sum of the turns passed. Assumes nothing.
use mathlib.Core.Path.{◌≡◌, refl}
use Prim.Native.Nat.{◌*◌, ◌-◌, ◌≤◌}
use native.Mathlib.Omega.{arith}
use borrow.Author.Rules.{rules}
use Rattle.laws.specs.Sums.{sum}
use Rattle.recorded.specs.Count.{in_row}
use Rattle.recorded.proofs.Counting.{sum_none, sum_more, sum_end, counted}
use mathlib.Core.Path.{◌∙◌}
use Rattle.recorded.proofs.count.edge_count.Given as goal

abbrev pub invariant-loop-r : goal.invariant-loop-r
invariant-loop-r l = (l.r-end ≡ l.s.rows) × (l.r ≤ l.s.rows) × (l.n ≡ sum l.r (λ k. in_row l.s l.vedge l.hedge k)) × (l.n ≤ l.r * 2048)

abbrev pub decreases-loop-r : goal.decreases-loop-r
decreases-loop-r l = l.s.rows - l.r
