-- `edge_count` meets its contract: the invariant says that the count so far is the sum of the turns passed. Assumes nothing.
use mathlib.Core.Path.{◌≡◌, refl}
use Prim.Native.Nat.{◌*◌, ◌-◌, ◌≤◌}
use native.Mathlib.Omega.{arith}
use borrow.Author.Rules.{rules}
use Rattle.laws.specs.Sums.{sum}
use Rattle.recorded.specs.Count.{in_row}
use Rattle.recorded.proofs.Counting.{sum_none, sum_more, sum_end, counted}
use mathlib.Core.Path.{◌∙◌}
use Rattle.recorded.proofs.count.edge_count.Goals as goal

pub loop-r-init : goal.loop-r-init
loop-r-init c = (refl, omega arith, sum_none _, omega arith)

pub loop-r-preserved : goal.loop-r-preserved
loop-r-preserved c =
    let turns = c.loop-r in
    (turns.invariant.0, search rules, sum_more _ _ turns.invariant.2 c.in_row-n.ensures.0 refl, omega (arith, turns.invariant.3, c.in_row-n.ensures.1))

pub returns : goal.returns
returns c =
    let turns = c.loop-r in
    (λ w t q ts ks. sum_end _ _ _ turns.invariant.2 turns.invariant.1 (search rules) ∙ counted _ _ _ w t q ts ks, omega (arith, turns.invariant.3, turns.invariant.1, c.requires.sizes_ok.rows_most))
