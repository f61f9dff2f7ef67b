-- `goes_on` says whether a byte is a letter that there is room for. Assumes nothing.
use borrow.Author.Tests.{le-leb, lt-leb, le-ltb}
use Rattle.laws.specs.Choose.{both}
use Rattle.text.specs.Words.{goes_on}
use Rattle.text.proofs.spell.goes_on.Goals as goal

pub returns-then-b-gt32 : goal.returns-then-b-gt32
unfolding goes_on both
returns-then-b-gt32 c = rw (lt-leb _ _ c.if-b-gt32.true)

pub returns-else-b-gt32 : goal.returns-else-b-gt32
unfolding goes_on both
returns-else-b-gt32 c = rw (le-leb _ _ c.if-b-gt32.false, le-ltb _ _ c.if-b-gt32.false)
