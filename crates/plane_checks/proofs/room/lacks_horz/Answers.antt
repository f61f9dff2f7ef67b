-- `lacks_horz` meets its contract. Assumes nothing.
use Rattle.plane_checks.proofs.Reach.{ends as needs}
use Rattle.plane_checks.proofs.room.lacks_horz.Goals as goal

pub returns-then-rows-lt2 : goal.returns-then-rows-lt2
returns-then-rows-lt2 c = search needs

pub returns-in-Some : goal.returns-in-Some
returns-in-Some c = search needs

pub returns : goal.returns
returns c = search needs
