-- `qindex_grid`'s loop: the rows passed so far are set. Assumes nothing.
use Rattle.rules.specs.QindexGrid.{q_grid_of}
use Rattle.tiles.proofs.Turns.{loops as needs}
use Rattle.qindex.proofs.qindex_grid.qindex_grid.Goals as goal

pub loop-r-init : goal.loop-r-init
loop-r-init c = search needs

pub loop-r-preserved : goal.loop-r-preserved
loop-r-preserved c = search needs

pub returns : goal.returns
unfolding q_grid_of
returns c = search needs
