-- `edge_at` meets its contract. Assumes nothing.
use Rattle.plane.proofs.Edges.{edges as needs}
use Rattle.plane.proofs.edge.edge_at.Goals as goal

pub returns : goal.returns
returns c = search needs
