-- `no_number` is the definition's `nothing`. Assumes nothing.
use mathlib.Core.Path.{refl}
use Rattle.text.specs.Numbers.{nothing}
use Rattle.text.proofs.number.no_number.Goals as goal

pub returns : goal.returns
unfolding nothing
returns c = refl
