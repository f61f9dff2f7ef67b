-- `is_offset` goes by the sign. Assumes nothing.
use Rattle.laws.specs.Choose.{tests}
use Rattle.settings.proofs.values.is_offset.Goals as goal

pub returns-then-negative : goal.returns-then-negative
returns-then-negative c = search tests

pub returns : goal.returns
returns c = search tests
