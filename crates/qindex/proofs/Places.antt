-- The place of a cell in a qindex grid's list: that it fits a machine word and lies within it, in the form in which a need asks.
-- Assumes nothing.
use Prim.Native.Nat.{ℕ, ◌+◌, ◌*◌, ◌<◌}
use mir.Val.{Fits}
use mir.Syntax.{w64}
use Rattle.rules.specs.declared.settings.QindexGrid.{QindexGrid}
use Rattle.tiles.proofs.Places.{row_fits, cell_fits, cell_in}
use Rattle.qindex.specs.Fit.{QFit}

module _ {s : QindexGrid} {count n : ℕ} (fit : QFit s count n) (r c : ℕ) (hr : r < s.rows) where
  pub q_row_fits : Fits w64 (r * s.cols)
  q_row_fits = row_fits r s.rows s.cols hr fit.rows_most fit.cols_most

  pub q_cell_fits : c < s.cols → Fits w64 (r * s.cols + c)
  q_cell_fits hc = cell_fits r s.rows c s.cols hr hc fit.rows_most fit.cols_most

  pub q_cell_in : c < s.cols → r * s.cols + c < n
  q_cell_in hc = cell_in r s.rows c s.cols n hr hc fit.long
