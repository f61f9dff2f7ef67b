-- `tile` stores a row of leaves a turn. Assumes nothing.
use Rattle.pictures.specs.Defaults.{leaves, tiled, tiled_end}
use Rattle.pictures.proofs.Leaves.{tiling as needs, row_more}
use Rattle.pictures.proofs.defaults.tile.Goals as goal

pub loop-r-init : goal.loop-r-init
loop-r-init c = search needs

pub loop-r-preserved : goal.loop-r-preserved
loop-r-preserved c = (search needs, search needs, search needs, search needs, row_more _ _ _ _ _ c.loop-r.invariant.3 c.loop-r.invariant.4 c.leaf_row.ensures)

pub returns : goal.returns
unfolding tiled leaves tiled_end
returns c = search needs
