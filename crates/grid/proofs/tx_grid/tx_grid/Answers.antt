-- `tx_grid` blanks the lists and paints the leaves; the lists keep their lengths. Assumes nothing.
use Rattle.grid.proofs.Painted.{grid_built}
use Rattle.grid.proofs.tx_grid.tx_grid.Goals as goal

pub returns : goal.returns
returns c = grid_built _ _ _ _ _ c.blank.ensures c.paint_lists.ensures
