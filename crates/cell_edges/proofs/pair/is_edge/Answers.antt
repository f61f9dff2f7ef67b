-- `is_edge` meets its contract. Assumes nothing.
use Rattle.cell_edges.proofs.Places.{places as needs}
use Rattle.cell_edges.proofs.pair.is_edge.Goals as goal

pub returns-then-by_dir-ne0 : goal.returns-then-by_dir-ne0
returns-then-by_dir-ne0 c = search needs

pub returns-else-by_dir-ne0 : goal.returns-else-by_dir-ne0
returns-else-by_dir-ne0 c = search needs
