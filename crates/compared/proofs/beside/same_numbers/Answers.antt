-- `same_numbers` meets its contract: each test in its order. Assumes nothing.
use Rattle.compared.specs.Compare.{same_numbers}
use Rattle.laws.specs.Choose.{all_bad, all_ok, all_last, is_eq, not_eq}
use mathlib.Core.Path.{refl}
use Rattle.compared.proofs.beside.same_numbers.Goals as goal

pub returns-then-e-f : goal.returns-then-e-f
unfolding same_numbers
returns-then-e-f c = all_bad _ _ (not_eq _ _ c.if-e-f.true)

pub returns-then-e-f-2 : goal.returns-then-e-f-2
unfolding same_numbers
returns-then-e-f-2 c = all_ok _ _ _ (is_eq _ _ c.if-e-f.false) (all_bad _ _ (not_eq _ _ c.if-e-f-2.true))

pub returns-then-e-f-3 : goal.returns-then-e-f-3
unfolding same_numbers
returns-then-e-f-3 c = all_ok _ _ _ (is_eq _ _ c.if-e-f.false) (all_ok _ _ _ (is_eq _ _ c.if-e-f-2.false) (all_bad _ _ (not_eq _ _ c.if-e-f-3.true)))

pub returns-then-e-f-4 : goal.returns-then-e-f-4
unfolding same_numbers
returns-then-e-f-4 c = all_ok _ _ _ (is_eq _ _ c.if-e-f.false) (all_ok _ _ _ (is_eq _ _ c.if-e-f-2.false) (all_ok _ _ _ (is_eq _ _ c.if-e-f-3.false) (all_bad _ _ (not_eq _ _ c.if-e-f-4.true))))

pub returns-then-e-f-5 : goal.returns-then-e-f-5
unfolding same_numbers
returns-then-e-f-5 c =
    all_ok _ _ _
    (is_eq _ _ c.if-e-f.false)
    (all_ok _ _ _ (is_eq _ _ c.if-e-f-2.false) (all_ok _ _ _ (is_eq _ _ c.if-e-f-3.false) (all_ok _ _ _ (is_eq _ _ c.if-e-f-4.false) (all_bad _ _ (not_eq _ _ c.if-e-f-5.true)))))

pub returns : goal.returns
unfolding same_numbers
returns c =
    all_ok _ _ _
    (is_eq _ _ c.if-e-f.false)
    (all_ok _ _ _
    (is_eq _ _ c.if-e-f-2.false)
    (all_ok _ _ _ (is_eq _ _ c.if-e-f-3.false) (all_ok _ _ _ (is_eq _ _ c.if-e-f-4.false) (all_ok _ _ _ (is_eq _ _ c.if-e-f-5.false) (all_last _ _ refl)))))
