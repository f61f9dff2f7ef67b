-- `by_dir` meets its contract. Assumes nothing.
use Rattle.laws.specs.Choose.{tests}
use Rattle.cell_edges.proofs.pair.by_dir.Goals as goal

pub returns-then-dir-eq0 : goal.returns-then-dir-eq0
returns-then-dir-eq0 c = search tests

pub returns-else-dir-eq0 : goal.returns-else-dir-eq0
returns-else-dir-eq0 c = search tests
