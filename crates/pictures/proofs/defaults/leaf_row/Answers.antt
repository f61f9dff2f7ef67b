-- `leaf_row` stores a leaf a turn. Assumes nothing.
use Rattle.pictures.specs.Defaults.{leaf_row}
use Rattle.pictures.proofs.Leaves.{tiling as needs, leaf_more}
use Rattle.pictures.proofs.defaults.leaf_row.Goals as goal

pub loop-c-init : goal.loop-c-init
loop-c-init c = search needs

pub loop-c-preserved : goal.loop-c-preserved
loop-c-preserved c = (search needs, search needs, leaf_more _ _ _ _ c.loop-c.invariant.2 c.put_leaf.ensures)

pub returns : goal.returns
unfolding leaf_row
returns c = search needs
