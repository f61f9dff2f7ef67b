-- Off the cells nothing is claimed; on them the four cells across the edge are all that it may store in. Assumes nothing.
use Rattle.kept.proofs.Marked.{open_upright, open_level}
use Rattle.kept.proofs.marks.all_open.Goals as goal

pub returns-then-e-eq0 : goal.returns-then-e-eq0
returns-then-e-eq0 c = λ stride columns rows size h e. open_upright h c.if-e-ne0.false c.if-e-ne0-2.false c.if-e-eq0.true (c.four_open.ensures e)

pub returns : goal.returns
returns c = λ stride columns rows size h e. open_level h c.if-e-ne0.false c.if-e-ne0-2.false c.if-e-eq0.false (c.four_open-2.ensures e)
