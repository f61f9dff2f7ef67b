-- `subsampling` is none for luma. Assumes nothing.
use Rattle.laws.specs.Choose.{tests}
use Rattle.by_settings.proofs.filters.subsampling.Goals as goal

pub returns-then-p-eq0 : goal.returns-then-p-eq0
returns-then-p-eq0 c = search tests

pub returns-else-p-eq0 : goal.returns-else-p-eq0
returns-else-p-eq0 c = search tests
