-- `shortened_at` meets its contract. Assumes nothing.
use Rattle.rules.specs.Plane.{shortened_at}
use Rattle.laws.specs.Choose.{tests as needs}
use Rattle.cell_edges.proofs.pair.shortened_at.Goals as goal

pub returns-then-dir-eq0 : goal.returns-then-dir-eq0
unfolding shortened_at
returns-then-dir-eq0 c = search needs

pub returns : goal.returns
unfolding shortened_at
returns c = search needs
