-- `tiles_check` meets its contract. Assumes nothing.
use borrow.Author.Rules.{rules}
use Rattle.rules.specs.Plane.{tiles_check}
use Rattle.checks.proofs.Checks.{checks}
use Rattle.plane_checks.proofs.Tiles.{checking}
use Rattle.plane_checks.proofs.starts.tiles_check.Goals as goal

pub returns-in-Some : goal.returns-in-Some
returns-in-Some c = search checking

pub returns : goal.returns
unfolding tiles_check
returns c = search checks
