-- `cell_good` meets its contract. Assumes nothing.
use mathlib.Core.Path.{refl}
use borrow.Author.Rules.{rules}
use Rattle.laws.specs.Choose.{all_bad, all_ok, all_last, is_le, not_le}
use Rattle.rules.specs.Plane.{cell_good}
use Rattle.plane_checks.proofs.grid.cell_good.Goals as goal

pub returns-then-vedge-k-gt1 : goal.returns-then-vedge-k-gt1
unfolding cell_good
returns-then-vedge-k-gt1 c = all_bad _ _ (not_le _ _ c.if-vedge-k-gt1.true)

pub returns-then-hedge-k-gt1 : goal.returns-then-hedge-k-gt1
unfolding cell_good
returns-then-hedge-k-gt1 c = all_ok _ _ _ (is_le _ _ c.if-vedge-k-gt1.false) (all_bad _ _ (not_le _ _ c.if-hedge-k-gt1.true))

pub returns-then-sqw-k-gt6 : goal.returns-then-sqw-k-gt6
unfolding cell_good
returns-then-sqw-k-gt6 c = all_ok _ _ _ (is_le _ _ c.if-vedge-k-gt1.false) (all_ok _ _ _ (is_le _ _ c.if-hedge-k-gt1.false) (all_bad _ _ (not_le _ _ c.if-sqw-k-gt6.true)))

pub returns-then-sqh-k-gt6 : goal.returns-then-sqh-k-gt6
unfolding cell_good
returns-then-sqh-k-gt6 c = all_ok _ _ _ (is_le _ _ c.if-vedge-k-gt1.false) (all_ok _ _ _ (is_le _ _ c.if-hedge-k-gt1.false) (all_ok _ _ _ (is_le _ _ c.if-sqw-k-gt6.false) (all_bad _ _ (not_le _ _ c.if-sqh-k-gt6.true))))

pub returns : goal.returns
unfolding cell_good
returns c = all_ok _ _ _ (is_le _ _ c.if-vedge-k-gt1.false) (all_ok _ _ _ (is_le _ _ c.if-hedge-k-gt1.false) (all_ok _ _ _ (is_le _ _ c.if-sqw-k-gt6.false) (all_ok _ _ _ (is_le _ _ c.if-sqh-k-gt6.false) (all_last _ _ refl))))
