-- `bihargesh_tx_grid` answers by a TU grid's rules. Assumes nothing.
use Rattle.cside.proofs.Telling.{grids as needs}
use Rattle.cside.proofs.tx_grids.bihargesh_tx_grid.Goals as goal

pub returns-then-settings-lt6 : goal.returns-then-settings-lt6
returns-then-settings-lt6 c = search needs

pub returns : goal.returns
returns c = search needs
