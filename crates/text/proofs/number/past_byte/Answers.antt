-- `past_byte` steps over one byte where it stands: each test picks a case of `past`. Assumes nothing.
use borrow.Author.Tests.{lt-ltb, le-ltb, eq-eqb, ne_eqb}
use Rattle.text.specs.Numbers.{past}
use Rattle.text.proofs.number.past_byte.Goals.{else-at-end-via-then-at-end+else-text-at, else-at-end-via-else-at-end}
use Rattle.text.proofs.number.past_byte.Goals as goal

pub returns-then-text-at-clause-value : goal.returns-then-text-at-clause-value
unfolding past
returns-then-text-at-clause-value c = rw (lt-ltb _ _ c.if-at-end.true, eq-eqb _ _ c.if-text-at.true)

pub returns-clause-value : goal.returns-clause-value
unfolding past
returns-clause-value c = elim c.else-at-end.branch [
  | else-at-end-via-then-at-end+else-text-at w ↦ rw (lt-ltb _ _ w.if-at-end.true, ne_eqb _ _ w.if-text-at.false)
  | else-at-end-via-else-at-end w ↦ rw (le-ltb _ _ w.if-at-end.false)
]
