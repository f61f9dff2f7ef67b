-- `give_up` is the definition's `failed`. Assumes nothing.
use mathlib.Core.Path.{refl}
use Rattle.text.specs.Typed.{failed}
use Rattle.text.proofs.typed.give_up.Goals as goal

pub returns : goal.returns
unfolding failed
returns c = refl
