-- `sample_place` is the place in the first plane that has a bad sample. Assumes nothing.
use Rattle.by_settings.specs.Places.{sample_place}
use Rattle.by_settings.proofs.Placing.{placing}
use borrow.Author.Rules.{rules}
use Rattle.by_settings.proofs.places.sample_place.Goals as goal

pub returns-then-over : goal.returns-then-over
unfolding sample_place
returns-then-over c = search placing

pub returns-then-over-2 : goal.returns-then-over-2
unfolding sample_place
returns-then-over-2 c = search placing

pub returns : goal.returns
unfolding sample_place
returns c = search placing
