-- `cell` skips a cell outside the plane and stores one within; its place lies in each list. Assumes nothing.
use Rattle.grid.proofs.Painted.{cell_below, cell_right, cell_within}
use Rattle.grid.proofs.Places.{tx_cell_in}
use Rattle.grid.proofs.paint.cell.Goals as goal

pub returns-then-s-r : goal.returns-then-s-r
returns-then-s-r c = cell_below _ _ _ _ _ c.if-s-r.true

pub returns-then-s-c : goal.returns-then-s-c
returns-then-s-c c = cell_right _ _ _ _ _ c.if-s-r.false c.if-s-c.true

pub store-requires : goal.store-requires
store-requires c = tx_cell_in c.requires.grid_fits _ _ c.if-s-r.false c.if-s-c.false

pub returns : goal.returns
returns c =
    cell_within _ _ _ _ _ _ _ _ _
    c.if-s-r.false
    c.if-s-c.false
    c.mark.ensures
    c.mark-2.ensures
    c.log2.ensures
    c.log2-2.ensures
    c.store.ensures
