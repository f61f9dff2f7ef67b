-- `sizes_ok` meets its contract. Assumes nothing.
use Rattle.laws.specs.Choose.{tests as needs, all_bad, all_ok, all_last}
use Rattle.rules.specs.Plane.{plane_sizes_ok}
use Rattle.plane_checks.proofs.Accepted.{four_fits}
use Rattle.plane_checks.proofs.sizes.sizes_ok.Goals as goal

pub returns-then-not-in_range : goal.returns-then-not-in_range
unfolding plane_sizes_ok
returns-then-not-in_range c = all_bad _ _ (search needs)

pub returns-then-not-in_range-2 : goal.returns-then-not-in_range-2
unfolding plane_sizes_ok
returns-then-not-in_range-2 c = all_ok _ _ _ (search needs) (all_bad _ _ (search needs))

pub overflow_mul-s : goal.overflow_mul-s
overflow_mul-s c = four_fits _ c.in_range.ensures c.if-not-in_range.false-raw

pub returns-then-not-in_range-3 : goal.returns-then-not-in_range-3
unfolding plane_sizes_ok
returns-then-not-in_range-3 c = all_ok _ _ _ (search needs) (all_ok _ _ _ (search needs) (all_bad _ _ (search needs)))

pub overflow_mul-s-2 : goal.overflow_mul-s-2
overflow_mul-s-2 c = four_fits _ c.in_range.ensures c.if-not-in_range.false-raw

pub returns-then-not-in_range-4 : goal.returns-then-not-in_range-4
unfolding plane_sizes_ok
returns-then-not-in_range-4 c = all_ok _ _ _ (search needs) (all_ok _ _ _ (search needs) (all_ok _ _ _ (search needs) (all_bad _ _ (search needs))))

pub overflow_mul-s-3 : goal.overflow_mul-s-3
overflow_mul-s-3 c = four_fits _ c.in_range-2.ensures c.if-not-in_range-2.false-raw

pub returns-then-not-in_range-5 : goal.returns-then-not-in_range-5
unfolding plane_sizes_ok
returns-then-not-in_range-5 c = all_ok _ _ _ (search needs) (all_ok _ _ _ (search needs) (all_ok _ _ _ (search needs) (all_ok _ _ _ (search needs) (all_bad _ _ (search needs)))))

pub returns-then-not-superblock_ok : goal.returns-then-not-superblock_ok
unfolding plane_sizes_ok
returns-then-not-superblock_ok c = all_ok _ _ _ (search needs) (all_ok _ _ _ (search needs) (all_ok _ _ _ (search needs) (all_ok _ _ _ (search needs) (all_ok _ _ _ (search needs) (all_bad _ _ (search needs))))))

pub returns : goal.returns
unfolding plane_sizes_ok
returns c = all_ok _ _ _ (search needs) (all_ok _ _ _ (search needs) (all_ok _ _ _ (search needs) (all_ok _ _ _ (search needs) (all_ok _ _ _ (search needs) (all_ok _ _ _ (search needs) (all_last _ _ (search needs)))))))
