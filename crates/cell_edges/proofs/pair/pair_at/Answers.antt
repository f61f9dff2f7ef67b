-- `pair_at` meets its contract. Assumes nothing.
use Rattle.cell_edges.proofs.Places.{places}
use Rattle.cell_edges.proofs.pair.pair_at.Goals as goal

pub returns : goal.returns
returns c = (cc, search places)
