-- `lengths_ok` meets its contract. Assumes nothing.
use Rattle.laws.specs.Choose.{tests, all_bad, all_ok, all_last}
use mathlib.Core.Path.{refl}
use Rattle.rules.specs.Plane.{plane_lengths_ok}
use Rattle.plane_checks.proofs.Accepted.{sizing as needs}
use Rattle.plane_checks.proofs.sizes.lengths_ok.Goals as goal

pub returns-then-plane-s : goal.returns-then-plane-s
unfolding plane_lengths_ok
returns-then-plane-s c = λ ts. all_bad _ _ (search tests)

pub returns-then-vedge-cells : goal.returns-then-vedge-cells
unfolding plane_lengths_ok
returns-then-vedge-cells c = λ ts. all_ok _ _ _ (search tests) (all_bad _ _ (search tests))

pub returns-then-hedge-cells : goal.returns-then-hedge-cells
unfolding plane_lengths_ok
returns-then-hedge-cells c = λ ts. all_ok _ _ _ (search tests) (all_ok _ _ _ (search tests) (all_bad _ _ (search tests)))

pub returns-then-sqw-cells : goal.returns-then-sqw-cells
unfolding plane_lengths_ok
returns-then-sqw-cells c = λ ts. all_ok _ _ _ (search tests) (all_ok _ _ _ (search tests) (all_ok _ _ _ (search tests) (all_bad _ _ (search tests))))

pub returns-then-sqh-cells : goal.returns-then-sqh-cells
unfolding plane_lengths_ok
returns-then-sqh-cells c = λ ts. all_ok _ _ _ (search tests) (all_ok _ _ _ (search tests) (all_ok _ _ _ (search tests) (all_ok _ _ _ (search tests) (all_bad _ _ (search tests)))))

pub returns-then-qindex-cells : goal.returns-then-qindex-cells
unfolding plane_lengths_ok
returns-then-qindex-cells c = λ ts. all_ok _ _ _ (search tests) (all_ok _ _ _ (search tests) (all_ok _ _ _ (search tests) (all_ok _ _ _ (search tests) (all_ok _ _ _ (search tests) (all_bad _ _ (search tests))))))

pub returns : goal.returns
unfolding plane_lengths_ok
returns c = λ ts. all_ok _ _ _ (search tests) (all_ok _ _ _ (search tests) (all_ok _ _ _ (search tests) (all_ok _ _ _ (search tests) (all_ok _ _ _ (search tests) (all_ok _ _ _ (search tests) (all_last _ _ refl))))))
