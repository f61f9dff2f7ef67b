-- `over` tests a sample of a depth. Assumes nothing.
use Rattle.by_settings.specs.Places.{over_top}
use Rattle.by_settings.proofs.Placing.{placing}
use borrow.Author.Rules.{rules}
use Rattle.by_settings.proofs.places.over.Goals as goal

pub returns-then-not-is : goal.returns-then-not-is
unfolding over_top
returns-then-not-is c = search placing

pub returns-then-plane-k : goal.returns-then-plane-k
returns-then-plane-k c = search placing

pub returns : goal.returns
returns c = search placing
