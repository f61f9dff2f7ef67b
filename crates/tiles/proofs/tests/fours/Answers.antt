-- `fours` is the rule's test. Assumes nothing.
use borrow.Author.Rules.{rules}
use Rattle.rules.specs.TuGrid.{fours_ok}
use Rattle.tiles.proofs.tests.fours.Goals as goal

pub returns : goal.returns
unfolding fours_ok
returns c = search rules
