-- `next_number` is `number_at`: each test picks a case. Assumes nothing.
use borrow.Author.Tests.{lt-ltb, le-ltb}
use Rattle.text.specs.Numbers.{number_at}
use Rattle.text.proofs.number.next_number.Goals.{then-not-good-via-then-not-good, then-not-good-via-else-not-good+then-text-end, then-not-good-via-else-not-good+else-text-end+then-end-at}
use Rattle.text.proofs.number.next_number.Goals as goal

pub returns-then-not-good : goal.returns-then-not-good
unfolding number_at
returns-then-not-good c = elim c.then-not-good.branch [
  | then-not-good-via-then-not-good w ↦ rw (c.no_number.ensures, w.if-not-good.true)
  | then-not-good-via-else-not-good+then-text-end w ↦ rw (c.no_number.ensures, w.if-not-good.false, lt-ltb _ _ w.if-text-end.true)
  | then-not-good-via-else-not-good+else-text-end+then-end-at w ↦ rw (c.no_number.ensures, w.if-not-good.false, le-ltb _ _ w.if-text-end.false, lt-ltb _ _ w.if-end-at.true)
]

pub returns : goal.returns
unfolding number_at
returns c = rw (c.signed_number.ensures, c.past_byte-start.ensures.value, c.if-not-good.false, le-ltb _ _ c.if-text-end.false, le-ltb _ _ c.if-end-at.false)
