-- `shifted` divides by 2 to the subsampling. Assumes nothing.
use Rattle.rounding.proofs.Shifts.{down_none, down_half}
use Rattle.rounding.proofs.shifted.Goals as goal

pub returns-then-ss-eq0 : goal.returns-then-ss-eq0
returns-then-ss-eq0 c = down_none _ _ c.if-ss-eq0.true

pub returns-else-ss-eq0 : goal.returns-else-ss-eq0
returns-else-ss-eq0 c = down_half _ _ c.requires c.if-ss-eq0.false
