-- `read_unsigned` is `unsigned_of` of the number: each test picks a case. Assumes nothing.
use borrow.Author.Tests.{lt-ltb, le-ltb}
use Rattle.text.specs.Typed.{unsigned_of}
use Rattle.text.proofs.typed.read_unsigned.Goals.{then-n-via-then-n, then-n-via-else-n+then-most-n}
use Rattle.text.proofs.typed.read_unsigned.Goals as goal

pub returns-then-n-clause-value : goal.returns-then-n-clause-value
unfolding unsigned_of
returns-then-n-clause-value c = elim c.then-n.branch [
  | then-n-via-then-n w ↦ rw (c.give_up.ensures, ← c.next_number-n.ensures, w.if-n.true)
  | then-n-via-else-n+then-most-n w ↦ rw (c.give_up.ensures, ← c.next_number-n.ensures, w.if-n.false, lt-ltb _ _ w.if-most-n.true)
]

pub returns-clause-value : goal.returns-clause-value
unfolding unsigned_of
returns-clause-value c = rw (← c.next_number-n.ensures, c.if-n.false, le-ltb _ _ c.if-most-n.false)
