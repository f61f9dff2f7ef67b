-- `wants` tests the place, the plane and the picture. Assumes nothing.
use Rattle.laws.specs.Choose.{tests}
use Rattle.by_settings.specs.Offsets.{wanted}
use borrow.Author.Rules.{rules}
use Rattle.by_settings.proofs.gated.wants.Goals as goal

pub returns-then-places-p : goal.returns-then-places-p
unfolding wanted
returns-then-places-p c = search tests

pub returns-then-p-eq0 : goal.returns-then-p-eq0
unfolding wanted
returns-then-p-eq0 c = search tests

pub returns : goal.returns
unfolding wanted
returns c = search tests
