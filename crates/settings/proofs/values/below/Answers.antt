-- `below` keeps what is at least -10. Assumes nothing.
use Rattle.settings.proofs.Signs.{below_in, below_out}
use borrow.Author.Rules.{rules}
use Rattle.settings.proofs.values.below.Goals as goal

pub returns-then-size-gt10 : goal.returns-then-size-gt10
returns-then-size-gt10 c = below_out _ (search rules)

pub returns : goal.returns
returns c = below_in _ (search rules)
