-- `set_row`'s loop: the places passed so far are 1. Assumes nothing.
use Rattle.tiles.proofs.Turns.{loops as needs}
use Rattle.rectangle.specs.Cut.{row_set}
use Rattle.rectangle.proofs.cut.set_row.Goals as goal

pub loop-j-init : goal.loop-j-init
loop-j-init c = search needs

pub loop-j-preserved : goal.loop-j-preserved
loop-j-preserved c = search needs

pub returns : goal.returns
unfolding row_set
returns c = search needs
