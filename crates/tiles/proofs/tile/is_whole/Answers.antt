-- `is_whole` makes the rule's tests one after the other. Assumes nothing.
use mathlib.Core.Path.{sym}
use borrow.Author.Rules.{rules}
use Rattle.laws.specs.Choose.{tests, either_first, either_second}
use Rattle.rules.specs.TuGrid.{whole_of}
use Rattle.tiles.proofs.tile.is_whole.Goals as goal

pub returns-then-skip : goal.returns-then-skip
unfolding whole_of
returns-then-skip c = either_first _ _ (sym c.if-skip.true)

pub returns-then-flag : goal.returns-then-flag
unfolding whole_of
returns-then-flag c = either_second _ _ _ (sym c.if-skip.false) (search tests)

pub returns-then-is_pair : goal.returns-then-is_pair
unfolding whole_of
returns-then-is_pair c = either_second _ _ _ (sym c.if-skip.false) (search tests)

pub returns : goal.returns
unfolding whole_of
returns c = either_second _ _ _ (sym c.if-skip.false) (search tests)
