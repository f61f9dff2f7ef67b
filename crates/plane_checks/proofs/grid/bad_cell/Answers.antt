-- `bad_cell` meets its contract. Assumes nothing.
use Rattle.plane_checks.proofs.Marks.{bads as needs, bad_is, small_none}
use Rattle.plane_checks.proofs.grid.bad_cell.Goals as goal

pub returns-then-all_good : goal.returns-then-all_good
returns-then-all_good c = bad_is _ _ _ _ _ _ _ (small_none _ _ _ c.all_good.ensures c.if-all_good.true)

pub returns : goal.returns
returns c = search needs
