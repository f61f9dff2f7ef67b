-- The rectangle cut to the plane: how many of its rows and columns are left, and the marks set row by row; and a cell inside of it.
-- Assumes nothing.
use Rattle.std.specs.Prelude.{List, ℕ, ◌+◌, ◌*◌, ◌-◌, ◌≤◌, ◌<◌, min, set}
use Rattle.laws.specs.Loops.{turns}
use Rattle.rules.specs.declared.settings.Keep.{Keep}

-- what accepted checks leave in hand: sizes in range, and a mark for every cell
pub record RectangleFits (s : Keep) (n : ℕ) : Type 0 where
  pub some : 1 ≤ s.cols
  pub cols_most : s.cols ≤ 1024
  pub rows_most : s.rows ≤ 1024
  pub long : s.rows * s.cols ≤ n

-- how many of count from first on lie among n
abbrev pub part_of : ℕ → ℕ → ℕ → ℕ
part_of first count n = min count (n - first)

-- 1 at n places from a place on
unfoldable pub row_set : ℕ → ℕ → List ℕ → List ℕ
row_set at n l = turns n (λ j m. set m (at + j) 1) l

-- the same in so many rows, from the rectangle's first cell on
unfoldable pub rows_set : Keep → ℕ → ℕ → List ℕ → List ℕ
rows_set s high wide l = turns high (λ i. row_set ((s.row + i) * s.cols + s.col) wide) l

-- the cell of row r and column c lies in the rectangle
pub record Inside (s : Keep) (r c : ℕ) : Type 0 where
  pub below : s.row ≤ r
  pub above : r < s.row + s.h
  pub right : s.col ≤ c
  pub left : c < s.col + s.w
