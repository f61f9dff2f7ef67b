-- `up_to_eight` rounds up to 8. Assumes nothing.
use Rattle.rules.specs.Frame.{up_to_eight}
use borrow.Author.Rules.{rules}
use Rattle.rounding.proofs.up_to_eight.Goals as goal

pub returns : goal.returns
unfolding up_to_eight
returns c = search rules
