-- `more` asks one thing after the other. Assumes nothing.
use Rattle.laws.specs.Choose.{tests}
use Rattle.settings.specs.Values.{goes_on}
use Rattle.settings.proofs.values.more.Goals as goal

pub returns-then-c : goal.returns-then-c
unfolding goes_on
returns-then-c c = search tests

pub returns-else-c : goal.returns-else-c
unfolding goes_on
returns-else-c c = search tests
