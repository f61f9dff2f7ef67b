-- `may_lack` meets its contract. Assumes nothing.
use Rattle.plane_checks.proofs.Reach.{over_one as needs}
use Rattle.plane_checks.proofs.room.may_lack.Goals as goal

pub returns-then-sizes-i-le1 : goal.returns-then-sizes-i-le1
returns-then-sizes-i-le1 c = search needs

pub returns : goal.returns
returns c = search needs
