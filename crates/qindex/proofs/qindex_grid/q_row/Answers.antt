-- `q_row`'s loop: the cells passed so far are set. Assumes nothing.
use Rattle.rules.specs.QindexGrid.{q_row}
use Rattle.tiles.proofs.Turns.{loops as needs}
use Rattle.qindex.proofs.qindex_grid.q_row.Goals as goal

pub loop-c-init : goal.loop-c-init
loop-c-init c = search needs

pub loop-c-preserved : goal.loop-c-preserved
loop-c-preserved c = search needs

pub returns : goal.returns
unfolding q_row
returns c = search needs
