-- `leaves_fours` tests both lists of leaves. Assumes nothing.
use Rattle.laws.specs.Choose.{tests as needs}
use Rattle.tiles.proofs.tests.leaves_fours.Goals as goal

pub returns-then-not-fours : goal.returns-then-not-fours
returns-then-not-fours c = search needs

pub returns : goal.returns
returns c = search needs
