-- `start_good` meets its contract. Assumes nothing.
use Rattle.plane_checks.proofs.Tiles.{good as needs}
use Rattle.plane_checks.proofs.starts.start_good.Goals as goal

pub returns-then-start-floor : goal.returns-then-start-floor
returns-then-start-floor c = search needs

pub returns : goal.returns
returns c = search needs
