-- `luma` is a product with 2 to the subsampling. Assumes nothing.
use Rattle.qindex.proofs.Shifts.{up_none, up_double}
use Rattle.qindex.proofs.qindex_grid.luma.Goals as goal

pub returns-then-ss-eq0 : goal.returns-then-ss-eq0
returns-then-ss-eq0 c = up_none _ _ c.if-ss-eq0.true

pub returns-else-ss-eq0 : goal.returns-else-ss-eq0
returns-else-ss-eq0 c = up_double _ _ c.requires.0 c.if-ss-eq0.false
