-- `over_plane` meets its contract. Assumes nothing.
use Rattle.rules.specs.Plane.{over_plane}
use borrow.Author.Rules.{rules}
use Rattle.plane_checks.proofs.samples.over_plane.Goals as goal

pub returns : goal.returns
unfolding over_plane
returns c = cc
