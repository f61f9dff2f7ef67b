-- `superblock` is the smaller of the cell's entry and the last one. Assumes nothing.
use borrow.Author.Rules.{rules}
use Rattle.qindex.proofs.Shifts.{line_fits, superblock_fits, superblock_is}
use Rattle.qindex.proofs.qindex_grid.superblock.Goals as goal

pub overflow_mul-i : goal.overflow_mul-i
overflow_mul-i c = line_fits _ _ _ c.luma-y.ensures (search rules) (search rules) _ (search rules)

pub overflow_add-i : goal.overflow_add-i
overflow_add-i c = superblock_fits _ _ _ c.luma-y.ensures (search rules) (search rules) _ (search rules) _ _ _ c.luma-x.ensures (search rules) (search rules)

pub returns : goal.returns
returns c = superblock_is _ _ _ _ _ _ _ c.luma-y.ensures c.luma-x.ensures c.min.ensures
