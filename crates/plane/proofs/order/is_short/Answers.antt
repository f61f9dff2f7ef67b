-- `is_short` meets its contract: direction 0 by the table, any other by its row. Assumes nothing.
use native.Mathlib.Omega.{arith}
use borrow.Author.Rules.{rules}
use Rattle.laws.specs.Choose.{tests}
use Rattle.cell_edges.specs.Cells.{short_by}
use Rattle.plane.proofs.Edges.{short_row}
use Rattle.plane.proofs.order.is_short.Goals as goal

pub returns-then-dir-eq0 : goal.returns-then-dir-eq0
unfolding short_by
returns-then-dir-eq0 c = search tests

pub returns : goal.returns
returns c = short_row _ _ _ _ c.if-dir-eq0.false c.shortened_by.ensures
