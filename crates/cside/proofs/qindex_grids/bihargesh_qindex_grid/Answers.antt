-- `bihargesh_qindex_grid` answers by a qindex grid's rules. Assumes nothing.
use Rattle.cside.proofs.Telling.{grids as needs}
use Rattle.cside.proofs.qindex_grids.bihargesh_qindex_grid.Goals as goal

pub returns-then-settings-lt5 : goal.returns-then-settings-lt5
returns-then-settings-lt5 c = search needs

pub returns : goal.returns
returns c = search needs
