-- `shortened_by` meets its contract. Assumes nothing.
use Rattle.laws.specs.Choose.{tests as needs}
use Rattle.cell_edges.specs.Cells.{short_by}
use Rattle.cell_edges.proofs.pair.shortened_by.Goals as goal

pub returns-then-dir-eq0 : goal.returns-then-dir-eq0
unfolding short_by
returns-then-dir-eq0 c = search needs

pub returns : goal.returns
unfolding short_by
returns c = search needs
