-- `after_offset` goes on after an offset alone. Assumes nothing.
use Rattle.laws.specs.Choose.{tests}
use Rattle.text.specs.Typed.{failed}
use Rattle.settings.specs.Values.{offset_rest}
use Rattle.settings.proofs.values.after_offset.Goals as goal

pub returns-then-is_offset : goal.returns-then-is_offset
unfolding offset_rest
returns-then-is_offset c = search tests

pub returns : goal.returns
unfolding offset_rest failed
returns c = search tests
