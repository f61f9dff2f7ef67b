-- `close_number` takes a run that ends where it should: each test picks a case of `closed`. Assumes nothing.
use borrow.Author.Tests.{lt-leb, le-leb}
use mathlib.Core.Path.{sym, ◌∙◌}
use Rattle.text.specs.Numbers.{closed}
use Rattle.text.proofs.number.close_number.Goals.{then-next-first-via-then-next-first, then-next-first-via-else-next-first+then-not-ends_here}
use Rattle.text.proofs.number.close_number.Goals as goal

pub returns-then-next-first : goal.returns-then-next-first
unfolding closed
returns-then-next-first c = elim c.then-next-first.branch [
  | then-next-first-via-then-next-first w ↦ rw (c.no_number.ensures, le-leb _ _ w.if-next-first.true)
  | then-next-first-via-else-next-first+then-not-ends_here w ↦ let e = sym w.ends_here.ensures ∙ w.if-not-ends_here.true in rw (c.no_number.ensures, lt-leb _ _ w.if-next-first.false, e)
]

pub returns : goal.returns
unfolding closed
returns c = let e = sym c.ends_here.ensures ∙ c.if-not-ends_here.false in rw (lt-leb _ _ c.if-next-first.false, e)
