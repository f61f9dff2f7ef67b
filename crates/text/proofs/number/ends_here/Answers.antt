-- `ends_here` says whether a number may end: each test picks a case of `ends`. Assumes nothing.
use borrow.Author.Tests.{lt-ltb, le-ltb, le-leb}
use Rattle.text.specs.Numbers.{ends}
use Rattle.text.proofs.number.ends_here.Goals as goal

pub returns-then-end-at : goal.returns-then-end-at
unfolding ends
returns-then-end-at c = rw (le-leb _ _ c.if-end-at.true, le-ltb _ _ c.if-end-at.true)

pub returns-else-end-at : goal.returns-else-end-at
unfolding ends
returns-else-end-at c = rw (lt-ltb _ _ c.if-end-at.false) c.blank.ensures
