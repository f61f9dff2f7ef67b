-- `q_cell` sets the cell's place, which lies in the list, to an entry that is there. Assumes nothing.
use borrow.Author.Rules.{rules}
use Rattle.rules.specs.QindexGrid.{q_cell}
use Rattle.qindex.proofs.Shifts.{superblock_below}
use Rattle.qindex.proofs.qindex_grid.q_cell.Goals as goal

pub offset_bounds-sbq-i : goal.offset_bounds-sbq-i
offset_bounds-sbq-i c = let h = superblock_below _ _ _ _ _ c.requires.qfit.some c.superblock-i.ensures in search rules

pub bounds-sbq-i : goal.bounds-sbq-i
bounds-sbq-i c = superblock_below _ _ _ _ _ c.requires.qfit.some c.superblock-i.ensures

pub returns : goal.returns
unfolding q_cell
returns c = rw (← c.superblock-i.ensures)
