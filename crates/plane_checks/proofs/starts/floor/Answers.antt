-- `floor` meets its contract. Assumes nothing.
use Rattle.laws.specs.Choose.{tests as needs}
use Rattle.plane_checks.proofs.starts.floor.Goals as goal

pub returns-then-k-eq0 : goal.returns-then-k-eq0
returns-then-k-eq0 c = search needs

pub returns : goal.returns
returns c = search needs
