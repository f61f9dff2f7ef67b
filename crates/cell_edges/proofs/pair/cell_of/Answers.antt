-- `cell_of` meets its contract. Assumes nothing.
use Rattle.cell_edges.proofs.Places.{places as needs}
use Rattle.cell_edges.proofs.pair.cell_of.Goals as goal

pub returns : goal.returns
returns c = search needs
