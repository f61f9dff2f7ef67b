-- `good_at` reads the four numbers of leaf k. Assumes nothing.
use borrow.Author.Rules.{rules}
use Rattle.rules.specs.TuGrid.{leaf_good_at}
use Rattle.tiles.proofs.leaf.good_at.Goals as goal

pub returns : goal.returns
unfolding leaf_good_at
returns c = c.leaf_good.ensures
