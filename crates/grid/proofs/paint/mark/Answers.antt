-- `mark` is 1 where a TU starts. Assumes nothing.
use Rattle.laws.specs.Choose.{tests}
use Rattle.rules.specs.TuGrid.{mark_of}
use Rattle.grid.proofs.paint.mark.Goals as goal

pub returns-then-line_of-eq0 : goal.returns-then-line_of-eq0
unfolding mark_of
returns-then-line_of-eq0 c = rw (← c.line_of.ensures) (search tests)

pub returns-else-line_of-eq0 : goal.returns-else-line_of-eq0
unfolding mark_of
returns-else-line_of-eq0 c = rw (← c.line_of.ensures) (search tests)
