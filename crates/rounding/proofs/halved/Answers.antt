-- `halved` shifts a size, rounded up. Assumes nothing.
use native.Mathlib.Omega.{arith}
use Rattle.rules.specs.Frame.{halved}
use Rattle.rounding.proofs.Within.{half_most}
use borrow.Author.Rules.{rules}
use Rattle.rounding.proofs.halved.Goals as goal

pub returns : goal.returns
unfolding halved
returns c = (c.shifted.ensures, rw c.shifted.ensures (half_most _ _ 4096 c.requires.0 (omega arith) c.requires.1))
