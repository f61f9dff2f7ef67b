-- What the checks leave in hand for the building of a qindex grid: ranges and lengths.
-- Assumes nothing.
use Rattle.std.specs.Prelude.{◌≡◌, List, ℕ, ◌*◌, ◌≤◌, length}
use Rattle.rules.specs.declared.settings.QindexGrid.{QindexGrid}
use Rattle.rules.specs.QindexGrid.{q_grid_check}
use Rattle.rules.specs.Refusals.{Answer}

-- the cells, subsampling and superblocks of a qindex grid are in range, and both lists are long enough
pub record QFit (s : QindexGrid) (count n : ℕ) : Type 0 where
  pub cols_most : s.cols ≤ 1024
  pub rows_most : s.rows ≤ 1024
  pub ssx_most : s.ssx ≤ 1
  pub ssy_most : s.ssy ≤ 1
  pub sbcols_most : s.sbcols ≤ 128
  pub some : 1 ≤ count
  pub long : s.rows * s.cols ≤ n

-- an answer is that of the checks for any lists of these lengths
pub record QChecked (s : QindexGrid) (count n : ℕ) (r : Answer) : Type 0 where
  pub of : (sbq q : List ℕ) → length sbq ≡ count → length q ≡ n → r ≡ q_grid_check s sbq q
