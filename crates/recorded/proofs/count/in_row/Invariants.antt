-- `in_row` meets its contract: the invariant says that the count so far is the sum of the turns passed. Assumes nothing.
use mathlib.Core.Path.{◌≡◌, refl}
use Prim.Native.Nat.{◌*◌, ◌-◌, ◌≤◌}
use native.Mathlib.Omega.{arith}
use borrow.Author.Rules.{rules}
use Rattle.laws.specs.Sums.{sum}
use Rattle.recorded.specs.Count.{in_cell, in_row}
use Rattle.recorded.proofs.Counting.{sum_none, sum_more, sum_end}
use Rattle.recorded.proofs.count.in_row.Given as goal

abbrev pub invariant-loop-c : goal.invariant-loop-c
invariant-loop-c l = (l.c-end ≡ l.s.cols) × (l.c ≤ l.s.cols) × (l.n ≡ sum l.c (λ k. in_cell l.s l.vedge l.hedge l.r k)) × (l.n ≤ l.c * 2)

abbrev pub decreases-loop-c : goal.decreases-loop-c
decreases-loop-c l = l.s.cols - l.c
