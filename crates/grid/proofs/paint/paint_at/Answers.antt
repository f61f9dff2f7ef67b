-- `paint_at` reads the four numbers of leaf k. Assumes nothing.
use Rattle.rules.specs.TuGrid.{leaf_of}
use Rattle.grid.proofs.paint.paint_at.Goals as goal

pub returns : goal.returns
unfolding leaf_of
returns c = c.paint_leaf.ensures
