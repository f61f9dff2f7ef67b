-- Which cells of a plane the settings keep: their rectangles, four numbers each (row, column, rows, columns, in luma cells), as keep marks of the plane's own cells.
-- Assumes nothing.
use Rattle.std.specs.Prelude.{List, ℕ, ◌+◌, ◌*◌, ◌-◌, ◌/◌, ◌≤◌, ◌<◌, eqb, get_or, length}
use Rattle.laws.specs.Choose.{pick, either}
use Rattle.laws.specs.Loops.{turns}
use Rattle.rules.specs.declared.settings.Keep.{Keep}
use Rattle.rules.specs.Keep.{keep_after}
use Rattle.by_settings.specs.declared.kept.Cells.{Cells}
use Rattle.by_settings.specs.Lists.{lists_asked, between}

-- ---- one direction; ss is 1 where two of luma's cells are one of the plane's, and 0 where they are the same

-- count cells from first on have cell k
pub record Among (first count k : ℕ) : Type 0 where
  pub from : first ≤ k
  pub below : k < first + count

-- the plane's cell that has luma's cell
unfoldable pub first_in : ℕ → ℕ → ℕ
first_in ss first = pick (eqb ss 0) first (first / 2)

-- how many of the plane's cells have one of count luma cells from first on: up to the last one's, rounded up, and none of none
unfoldable pub count_in : ℕ → ℕ → ℕ → ℕ
count_in ss first count = pick (either (eqb ss 0) (eqb count 0)) count ((first + count + 1) / 2 - first / 2)

-- ---- the rectangles

-- rectangle i of a list in the plane's own cells
unfoldable pub rectangle_of : Cells → List ℕ → ℕ → Keep
rectangle_of s xs i = record {
  cols = s.cols;
  rows = s.rows;
  row = first_in s.ssy (get_or xs (4 * i) 0);
  col = first_in s.ssx (get_or xs (4 * i + 1) 0);
  h = count_in s.ssy (get_or xs (4 * i) 0) (get_or xs (4 * i + 2) 0);
  w = count_in s.ssx (get_or xs (4 * i + 1) 0) (get_or xs (4 * i + 3) 0);
}

-- the marks after every rectangle of a list
unfoldable pub kept_by : Cells → List ℕ → List ℕ → List ℕ
kept_by s xs keep = turns (length xs / 4) (λ i. keep_after (rectangle_of s xs i)) keep

-- after those of the settings
unfoldable pub kept_asked : Cells → List ℕ → List ℕ → List ℕ → List ℕ
kept_asked s shorts places keep =
    kept_by s (between shorts (lists_asked (length shorts) places).keeps (lists_asked (length shorts) places).keepsend) keep
