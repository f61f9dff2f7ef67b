-- `size_good` looks at the number itself in a skip leaf, and at the bare one in another. Assumes nothing.
use borrow.Author.Rules.{rules}
use Rattle.laws.specs.Choose.{pick}
use Rattle.tiles.specs.Fit.{size_good}
use Rattle.tiles.proofs.leaf.size_good.Goals as goal

pub returns-then-skip : goal.returns-then-skip
unfolding size_good pick
returns-then-skip c = rw (c.if-skip.true, ← c.wide.ensures) c.is_size.ensures

pub returns : goal.returns
unfolding size_good pick
returns c = rw (c.if-skip.false, ← c.bare.ensures) c.is_size-2.ensures
