-- `superblocks` counts them, the last one not always full. Assumes nothing.
use Rattle.rules.specs.Frame.{superblocks}
use borrow.Author.Rules.{rules}
use Rattle.rounding.proofs.superblocks.Goals as goal

pub returns : goal.returns
unfolding superblocks
returns c = search rules
