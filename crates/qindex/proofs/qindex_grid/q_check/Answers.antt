-- `q_check` makes the checks 2 and 3 in this order, whatever the lists hold. Assumes nothing.
use Rattle.laws.specs.Choose.{told_yes, told_no}
use Rattle.rules.specs.QindexGrid.{q_grid_check}
use Rattle.checks.proofs.Checks.{stop, go_on, unless_bad, unless_good}
use Rattle.qindex.proofs.Checked.{q_cells}
use Rattle.qindex.proofs.qindex_grid.q_check.Goals as goal

pub returns-then-not-sizes_ok : goal.returns-then-not-sizes_ok
unfolding q_grid_check
returns-then-not-sizes_ok c = record { of = λ sbq q a b. stop _ _ (unless_bad _ _ (told_no _ _ c.sizes_ok.ensures c.if-not-sizes_ok.true)) }

pub overflow_mul-s : goal.overflow_mul-s
overflow_mul-s c = q_cells _ (told_yes _ _ c.sizes_ok.ensures c.if-not-sizes_ok.false)

pub returns-then-not-lists_ok : goal.returns-then-not-lists_ok
unfolding q_grid_check
returns-then-not-lists_ok c = record { of = λ sbq q a b. rw (a, b) (go_on _ _ _ (unless_good _ _ (told_yes _ _ c.sizes_ok.ensures c.if-not-sizes_ok.false)) (unless_bad _ _ (told_no _ _ c.lists_ok.ensures c.if-not-lists_ok.true))) }

pub returns : goal.returns
unfolding q_grid_check
returns c = record { of = λ sbq q a b. rw (a, b) (go_on _ _ _ (unless_good _ _ (told_yes _ _ c.sizes_ok.ensures c.if-not-sizes_ok.false)) (unless_good _ _ (told_yes _ _ c.lists_ok.ensures c.if-not-lists_ok.false))) }
