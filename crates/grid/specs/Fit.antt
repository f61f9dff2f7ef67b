-- What the checks leave in hand for the building of a TU grid: ranges and lengths.
-- Assumes nothing.
use Rattle.std.specs.Prelude.{ℕ, ◌*◌, ◌≤◌}
use Rattle.rules.specs.declared.settings.TuGrid.{TuGrid}

-- the cells are in range, and four lists are long enough
pub record GridFits (s : TuGrid) (v h w t : ℕ) : Type 0 where
  pub cols_most : s.cols ≤ 1024
  pub rows_most : s.rows ≤ 1024
  pub long_v : s.rows * s.cols ≤ v
  pub long_h : s.rows * s.cols ≤ h
  pub long_w : s.rows * s.cols ≤ w
  pub long_t : s.rows * s.cols ≤ t
