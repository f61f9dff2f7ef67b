-- The marked edges of a cell and of a row of cells, by the two lists of marks alone.
-- Assumes nothing.
use Rattle.std.specs.Prelude.{List, ℕ, ◌+◌, ◌*◌, ◌≤◌}
use Rattle.laws.specs.Sums.{sum}
use Rattle.laws.specs.Tests.{bit}
use Rattle.rules.specs.declared.settings.Plane.{Plane}
use Rattle.rules.specs.Plane.{is_edge}
use Rattle.cell_edges.specs.Cells.{Sizes, marked}

-- accepted sizes, and marks for every cell
pub record Marks (s : Plane) (v h : ℕ) : Type 0 where
  pub sizes_ok : Sizes s
  pub vedge : s.rows * s.cols ≤ v
  pub hedge : s.rows * s.cols ≤ h

unfoldable pub in_cell : Plane → List ℕ → List ℕ → ℕ → ℕ → ℕ
in_cell s v h r c = bit (is_edge s (marked v) 0 r c) + bit (is_edge s (marked h) 1 r c)

unfoldable pub in_row : Plane → List ℕ → List ℕ → ℕ → ℕ
in_row s v h r = sum s.cols (λ c. in_cell s v h r c)
