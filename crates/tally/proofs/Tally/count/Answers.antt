-- `count` counts a line by its case. Assumes nothing.
use Rattle.tally.specs.Counts.{line_more, some_width_more}
use Rattle.tally.proofs.Tally.count.Goals as goal

pub returns-in-None : goal.returns-in-None
unfolding line_more
returns-in-None c = rw c.in-None.is c.count_unread.ensures

pub returns-in-None-width : goal.returns-in-None-width
unfolding line_more some_width_more
returns-in-None-width c = rw (c.in-Some.is, c.in-None-width.is) c.count_case.ensures

pub returns-in-Some-width : goal.returns-in-Some-width
unfolding line_more some_width_more
returns-in-Some-width c = rw (c.in-Some.is, c.in-Some-width.is, ← c.count_case.ensures) c.count_width.ensures
