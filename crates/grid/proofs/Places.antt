-- The place of a cell in a TU grid's lists: that it fits a machine word and lies within them, in the form in which a need asks.
-- Assumes nothing.
use mathlib.Core.Path.{◌≡◌}
use Prim.Native.Nat.{ℕ, ◌+◌, ◌*◌, ◌<◌}
use mir.Val.{Fits}
use mir.Syntax.{w64}
use native.Mathlib.Omega.{arith}
use borrow.Author.Rules.{rules}
use Rattle.rules.specs.declared.settings.TuGrid.{TuGrid}
use Rattle.tiles.proofs.Places.{place_below, cells_fit, row_fits, cell_fits}
use Rattle.grid.specs.Fit.{GridFits}

module _ {s : TuGrid} {v h w t : ℕ} (fit : GridFits s v h w t) (r c : ℕ) (hr : r < s.rows) where
  pub tx_row_fits : Fits w64 (r * s.cols)
  tx_row_fits = row_fits r s.rows s.cols hr fit.rows_most fit.cols_most

  pub tx_cell_fits : c < s.cols → Fits w64 (r * s.cols + c)
  tx_cell_fits hc = cell_fits r s.rows c s.cols hr hc fit.rows_most fit.cols_most

  pub tx_cell_in : c < s.cols → (r * s.cols + c < v) × (r * s.cols + c < h) × (r * s.cols + c < w) × (r * s.cols + c < t)
  tx_cell_in hc = let b = place_below r s.rows c s.cols hr hc in (omega arith, omega arith, omega arith, omega arith)

pub tx_cells_fit : {s : TuGrid} {v h w t : ℕ} → GridFits s v h w t → Fits w64 (s.rows * s.cols)
tx_cells_fit {s} fit = cells_fit s.rows s.cols fit.rows_most fit.cols_most

pub fit_same : {s : TuGrid} {v h w t v' h' w' t' : ℕ} → GridFits s v h w t → v' ≡ v → h' ≡ h → w' ≡ w → t' ≡ t → GridFits s v' h' w' t'
fit_same {s} f a b c d = rw (a, b, c, d) f

pub ruleset fitting = (rules, fit_same)
