-- `quant` is the rule as it stands. Assumes nothing.
use mathlib.Core.Path.{refl}
use borrow.Author.Rules.{rules}
use Rattle.rules.specs.Thresholds.{quant_of}
use Rattle.thresholds.proofs.steps.quant.Goals as goal

pub returns : goal.returns
unfolding quant_of
returns c = refl
