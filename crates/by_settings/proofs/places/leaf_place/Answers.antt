-- `leaf_place` reads a leaf that the list has. Assumes nothing.
use Rattle.by_settings.specs.Places.{leaf_place}
use Rattle.by_settings.proofs.Placing.{placing}
use borrow.Author.Rules.{rules}
use Rattle.by_settings.proofs.places.leaf_place.Goals as goal

pub returns-then-leaves-k : goal.returns-then-leaves-k
unfolding leaf_place
returns-then-leaves-k c = search placing

pub returns : goal.returns
returns c = search placing
