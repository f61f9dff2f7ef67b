-- `offset` goes by the sign. Assumes nothing.
use Rattle.laws.specs.Choose.{tests}
use Rattle.settings.specs.Values.{offset_of}
use Rattle.settings.proofs.values.offset.Goals as goal

pub returns-then-negative : goal.returns-then-negative
unfolding offset_of
returns-then-negative c = search tests

pub returns : goal.returns
unfolding offset_of
returns c = search tests
