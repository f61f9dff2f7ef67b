-- `row`'s loop: the cells passed so far are painted, and the lists keep their lengths. Assumes nothing.
use Rattle.laws.specs.Loops.{turns_more}
use Rattle.rules.specs.TuGrid.{paint_row}
use Rattle.tiles.proofs.Turns.{loops as needs}
use Rattle.grid.proofs.paint.row.Goals as goal

pub loop-dc-init : goal.loop-dc-init
loop-dc-init c = search needs

pub loop-dc-preserved : goal.loop-dc-preserved
loop-dc-preserved c = (search needs, turns_more _ _ _ c.loop-dc.invariant.1 c.cell.ensures, search needs, search needs, search needs, search needs)

pub returns : goal.returns
unfolding paint_row
returns c = search needs
