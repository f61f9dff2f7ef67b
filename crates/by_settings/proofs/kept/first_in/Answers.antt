-- `first_in` halves where two of luma's are one. Assumes nothing.
use Rattle.laws.specs.Choose.{tests}
use Rattle.by_settings.specs.Kept.{first_in}
use Rattle.by_settings.proofs.kept.first_in.Goals as goal

pub returns-then-ss-eq0 : goal.returns-then-ss-eq0
unfolding first_in
returns-then-ss-eq0 c = search tests

pub returns-else-ss-eq0 : goal.returns-else-ss-eq0
unfolding first_in
returns-else-ss-eq0 c = search tests
