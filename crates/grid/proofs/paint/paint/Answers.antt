-- `paint`'s loop: the rows passed so far are painted, and the lists keep their lengths. Assumes nothing.
use Rattle.laws.specs.Loops.{turns_more}
use Rattle.rules.specs.TuGrid.{paint_of}
use Rattle.tiles.proofs.Turns.{loops as needs}
use Rattle.grid.proofs.paint.paint.Goals as goal

pub loop-dr-init : goal.loop-dr-init
loop-dr-init c = search needs

pub loop-dr-preserved : goal.loop-dr-preserved
loop-dr-preserved c = (search needs, turns_more _ _ _ c.loop-dr.invariant.1 c.row.ensures, search needs, search needs, search needs, search needs)

pub returns : goal.returns
unfolding paint_of
returns c = search needs
