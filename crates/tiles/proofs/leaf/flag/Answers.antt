-- `flag` is the rule's bit 4096. Assumes nothing.
use borrow.Author.Rules.{rules}
use Rattle.rules.specs.TuGrid.{flag_of}
use Rattle.tiles.proofs.leaf.flag.Goals as goal

pub returns : goal.returns
unfolding flag_of
returns c = search rules
