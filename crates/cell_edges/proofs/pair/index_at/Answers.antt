-- `index_at` meets its contract. Assumes nothing.
use mathlib.Core.List.{[]}
use Rattle.cell_edges.proofs.Places.{indices_one}
use Rattle.rules.specs.Plane.{index_at}
use Rattle.cell_edges.proofs.Places.{places as needs}
use Rattle.cell_edges.proofs.pair.index_at.Goals as goal

pub capped-requires : goal.capped-requires
capped-requires c = search needs

pub returns : goal.returns
unfolding index_at
returns c = (cc (indices_one c.args.dir [] c.args.sizes.now [] []), search needs)
