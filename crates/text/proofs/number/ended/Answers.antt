-- `ended` tests that no number was missing, and then the place. Assumes nothing.
use Rattle.text.specs.Numbers.{whole_line}
use Rattle.text.proofs.number.ended.Goals as goal

pub returns-then-c : goal.returns-then-c
unfolding whole_line
returns-then-c c = rw c.if-c.true

pub returns-else-c : goal.returns-else-c
unfolding whole_line
returns-else-c c = rw c.if-c.false
