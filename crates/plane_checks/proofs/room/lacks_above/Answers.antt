-- `lacks_above` meets its contract. Assumes nothing.
use Rattle.plane_checks.proofs.Reach.{over_one as needs}
use Rattle.plane_checks.proofs.room.lacks_above.Goals as goal

pub returns-then-not-may_lack : goal.returns-then-not-may_lack
returns-then-not-may_lack c = search needs
