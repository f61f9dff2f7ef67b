-- `clear`'s loop: the entries passed so far are 0. Assumes nothing.
use Rattle.rules.specs.TuGrid.{clear_of}
use Rattle.tiles.proofs.Turns.{loops as needs}
use Rattle.grid.proofs.paint.clear.Goals as goal

pub loop-i-init : goal.loop-i-init
loop-i-init c = search needs

pub loop-i-preserved : goal.loop-i-preserved
loop-i-preserved c = search needs

pub returns : goal.returns
unfolding clear_of
returns c = search needs
