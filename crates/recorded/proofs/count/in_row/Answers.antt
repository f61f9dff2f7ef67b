-- `in_row` meets its contract: the invariant says that the count so far is the sum of the turns passed. Assumes nothing.
use mathlib.Core.Path.{◌≡◌, refl}
use Prim.Native.Nat.{◌*◌, ◌-◌, ◌≤◌}
use native.Mathlib.Omega.{arith}
use borrow.Author.Rules.{rules}
use Rattle.laws.specs.Sums.{sum}
use Rattle.recorded.specs.Count.{in_cell, in_row}
use Rattle.recorded.proofs.Counting.{sum_none, sum_more, sum_end}
use Rattle.recorded.proofs.count.in_row.Goals as goal

pub loop-c-init : goal.loop-c-init
loop-c-init c = (refl, omega arith, sum_none _, omega arith)

pub loop-c-preserved : goal.loop-c-preserved
loop-c-preserved c =
    let turns = c.loop-c in
    (turns.invariant.0, search rules, sum_more _ _ turns.invariant.2 c.in_cell-n.ensures.0 refl, omega (arith, turns.invariant.3, c.in_cell-n.ensures.1))

pub returns : goal.returns
unfolding in_row
returns c =
    let turns = c.loop-c in
    (sum_end _ _ _ turns.invariant.2 turns.invariant.1 (search rules), omega (arith, turns.invariant.3, turns.invariant.1, c.requires.0.sizes_ok.cols_most))
