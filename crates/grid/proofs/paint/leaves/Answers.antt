-- `leaves`' loop: the leaves passed so far are painted in turn. Assumes nothing.
use Rattle.laws.specs.Loops.{turns_more}
use Rattle.rules.specs.TuGrid.{leaves_of}
use Rattle.tiles.proofs.Turns.{loops as needs}
use Rattle.grid.proofs.paint.leaves.Goals as goal

pub loop-k-init : goal.loop-k-init
loop-k-init c = search needs

pub loop-k-preserved : goal.loop-k-preserved
loop-k-preserved c = (search needs, turns_more _ _ _ c.loop-k.invariant.1 c.paint_at.ensures, search needs, search needs, search needs, search needs)

pub returns : goal.returns
unfolding leaves_of
returns c = search needs
