-- `same_beside` compares both counts and the answer. Assumes nothing.
use Rattle.tally.proofs.Counting.{beside_same, beside_other}
use Rattle.tally.proofs.same_beside.Goals as goal

pub returns-then-counts-changed : goal.returns-then-counts-changed
returns-then-counts-changed c = beside_same _ _ _ _ _ _ c.if-counts-changed.true c.same.ensures

pub returns-else-counts-changed : goal.returns-else-counts-changed
returns-else-counts-changed c = beside_other _ _ _ _ _ _ c.if-counts-changed.false-raw c.if-counts-changed.either
