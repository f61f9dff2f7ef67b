-- `build` leaves the marks and the qindex that the two grids' callees leave, which is the built grid. Assumes nothing.
use Rattle.laws.specs.Choose.{told_yes, told_no}
use Rattle.frame_planes.proofs.Parts.{grid_by_holds, where_on, where_off}
use Rattle.frame_planes.proofs.build.build.Goals as goal

pub returns-then-not-kind_on : goal.returns-then-not-kind_on
returns-then-not-kind_on c = λ ts ks. where_off _ _ (told_no _ _ c.kind_on.ensures c.if-not-kind_on.true)

pub returns : goal.returns
returns c =
    λ ts ks. where_on _ (told_yes _ _ c.kind_on.ensures c.if-not-kind_on.false)
    (grid_by_holds _ _ _ _ _ _ _ _ _ _ _ _ _ ts ks c.tu_of.ensures c.q_of.ensures c.tx_grid.ensures c.qindex_grid.ensures)
