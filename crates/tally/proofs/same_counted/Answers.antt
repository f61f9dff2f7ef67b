-- `same_counted` compares both counts and the answer. Assumes nothing.
use mathlib.Core.Path.{refl}
use Rattle.tally.proofs.Counting.{accepted_same, accepted_other, refused_same, refused_other}
use Rattle.tally.proofs.same_counted.Goals as goal

pub returns-then-n-changed : goal.returns-then-n-changed
returns-then-n-changed c = accepted_same _ _ _ _ c.in-Ok.is c.if-n-changed.true refl

pub returns-else-n-changed : goal.returns-else-n-changed
returns-else-n-changed c = accepted_other _ _ _ _ c.in-Ok.is c.if-n-changed.false-raw c.if-n-changed.either

pub returns-then-changed-eq0 : goal.returns-then-changed-eq0
returns-then-changed-eq0 c = refused_same _ _ _ _ c.in-Err.is c.if-changed-eq0.true c.refused.ensures

pub returns-else-changed-eq0 : goal.returns-else-changed-eq0
returns-else-changed-eq0 c = refused_other _ _ _ _ c.in-Err.is c.if-changed-eq0.false-raw c.if-changed-eq0.either
