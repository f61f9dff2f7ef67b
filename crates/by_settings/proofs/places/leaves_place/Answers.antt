-- `leaves_place` is the place in the first list that has a bad leaf. Assumes nothing.
use Rattle.by_settings.specs.Places.{leaves_place}
use Rattle.by_settings.proofs.Placing.{placing}
use borrow.Author.Rules.{rules}
use Rattle.by_settings.proofs.places.leaves_place.Goals as goal

pub returns-in-Some : goal.returns-in-Some
unfolding leaves_place
returns-in-Some c = search placing

pub returns-in-Some-b : goal.returns-in-Some-b
unfolding leaves_place
returns-in-Some-b c = search placing

pub returns : goal.returns
unfolding leaves_place
returns c = search placing
