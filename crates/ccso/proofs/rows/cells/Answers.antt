-- `cells`' loop: each column so far has its store. Assumes nothing.
use Rattle.laws.proofs.Loops.{loops as needs}
use Rattle.ccso.proofs.rows.cells.Goals as goal

pub loop-j-init : goal.loop-j-init
loop-j-init c = search needs

pub loop-j-preserved : goal.loop-j-preserved
loop-j-preserved c = search needs
