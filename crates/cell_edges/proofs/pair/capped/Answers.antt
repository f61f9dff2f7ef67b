-- `capped` meets its contract. Assumes nothing.
use Rattle.rules.specs.Plane.{capped_of}
use Rattle.laws.specs.Choose.{tests as needs}
use Rattle.cell_edges.proofs.pair.capped.Goals as goal

pub returns-then-size-place : goal.returns-then-size-place
unfolding capped_of
returns-then-size-place c = search needs

pub returns-else-size-place : goal.returns-else-size-place
unfolding capped_of
returns-else-size-place c = search needs

pub returns-then-size-place-2 : goal.returns-then-size-place-2
unfolding capped_of
returns-then-size-place-2 c = search needs

pub returns-else-size-place-2 : goal.returns-else-size-place-2
unfolding capped_of
returns-else-size-place-2 c = search needs
