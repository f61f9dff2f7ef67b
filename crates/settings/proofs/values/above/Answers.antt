-- `above` keeps what is at most 7. Assumes nothing.
use Rattle.settings.proofs.Signs.{above_in, above_out}
use borrow.Author.Rules.{rules}
use Rattle.settings.proofs.values.above.Goals as goal

pub returns-then-size-gt7 : goal.returns-then-size-gt7
returns-then-size-gt7 c = above_out _ (search rules)

pub returns : goal.returns
returns c = above_in _ (search rules)
