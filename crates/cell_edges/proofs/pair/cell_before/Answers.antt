-- `cell_before` meets its contract. Assumes nothing.
use Rattle.cell_edges.proofs.Places.{places as needs}
use Rattle.cell_edges.proofs.pair.cell_before.Goals as goal

pub overflow_sub-result : goal.overflow_sub-result
overflow_sub-result c = search needs

pub returns-then-dir-eq0 : goal.returns-then-dir-eq0
returns-then-dir-eq0 c = search needs

pub overflow_sub-result-2 : goal.overflow_sub-result-2
overflow_sub-result-2 c = search needs

pub returns : goal.returns
returns c = search needs
