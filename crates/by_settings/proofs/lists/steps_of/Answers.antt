-- `steps_of` is all of the table where none is given. Assumes nothing.
use Rattle.laws.specs.Choose.{tests}
use Rattle.by_settings.specs.Lists.{steps_asked}
use borrow.Author.Rules.{rules}
use Rattle.by_settings.proofs.lists.steps_of.Goals as goal

pub returns-then-n-eq0 : goal.returns-then-n-eq0
unfolding steps_asked
returns-then-n-eq0 c = (search tests, search rules)

pub returns-else-n-eq0 : goal.returns-else-n-eq0
unfolding steps_asked
returns-else-n-eq0 c = (search tests, search rules)
