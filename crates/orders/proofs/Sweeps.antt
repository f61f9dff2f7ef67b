-- Sweeps that start at row 0 or column 0 walk the table of cells from there.
-- Assumes nothing.
use mathlib.Core.Path.{◌≡◌, ap, ap₂, ◌∙◌}
use mathlib.Core.List.{List, ◌++◌}
use Prim.Native.Nat.{ℕ, suc, ◌+◌, ◌-◌}
use native.Mathlib.Nat.{zero-add}
use Rattle.laws.specs.Choose.{pick}
use Rattle.laws.specs.Loops.{each, each_same}
use Rattle.laws.specs.Schedules.{plain, banded}
use Rattle.rules.specs.declared.edge.Edge.{Edge}
use Rattle.rules.specs.declared.settings.Plane.{Plane}
use Rattle.rules.specs.Plane.{Grid, visit_of, start_of, count_of, sweep_of, column_of}
use Rattle.rules.specs.Rows.{ready, band_of}
use Rattle.orders.specs.Walks.{plain_of, bands_of}

from_0 : {E : Type 0} (f : ℕ → List E) (n : ℕ) → each n (λ i. f (0 + i)) ≡ each n f
from_0 f n = each_same (λ i. f (0 + i)) f n (λ i l. ap f (zero-add i))

module _ (s : Plane) (steps : List ℕ) (g : Grid) where
  -- the edge of a cell's left side, and of its upper side, if it is one
  abbrev pub vert : ℕ → ℕ → List Edge
  vert r c = visit_of s steps g 0 r c

  abbrev pub horz : ℕ → ℕ → List Edge
  horz r c = visit_of s steps g 1 r c

  -- all columns
  vert_sweep : (row rows cols : ℕ) → sweep_of s steps g 0 row rows 0 cols ≡ each rows (λ i. each cols (λ c. vert (row + i) c))
  unfolding sweep_of pick
  vert_sweep row rows cols =
      each_same (λ i. each cols (λ j. vert (row + i) (0 + j))) (λ i. each cols (λ c. vert (row + i) c)) rows (λ i l. from_0 (λ c. vert (row + i) c) cols)

  horz_sweep : (row rows cols : ℕ) → sweep_of s steps g 1 row rows 0 cols ≡ each cols (λ c. each rows (λ i. horz (row + i) c))
  unfolding sweep_of pick
  horz_sweep row rows cols = from_0 (λ c. each rows (λ i. horz (row + i) c)) cols

  -- all rows of a superblock column
  pub vert_column : (sb : ℕ) → column_of s steps g 0 sb ≡ each s.rows (λ r. each (count_of s sb) (λ j. vert r (start_of s sb + j)))
  unfolding column_of sweep_of pick
  vert_column sb = from_0 (λ r. each (count_of s sb) (λ j. vert r (start_of s sb + j))) s.rows

  pub horz_column : (sb : ℕ) → column_of s steps g 1 sb ≡ each (count_of s sb) (λ j. each s.rows (λ r. horz r (start_of s sb + j)))
  unfolding column_of sweep_of pick
  horz_column sb =
      each_same (λ j. each s.rows (λ i. horz (0 + i) (start_of s sb + j))) (λ j. each s.rows (λ r. horz r (start_of s sb + j))) (count_of s sb)
      (λ j l. from_0 (λ r. horz r (start_of s sb + j)) s.rows)

  -- the whole plane
  pub plain_walk : plain_of s steps g ≡ plain vert horz s.rows s.cols
  unfolding plain_of
  plain_walk =
      ap₂ (λ (a b : List Edge). a ++ b)
      (vert_sweep 0 s.rows s.cols ∙ from_0 (λ r. each s.cols (λ c. vert r c)) s.rows)
      (horz_sweep 0 s.rows s.cols
      ∙ each_same (λ c. each s.rows (λ i. horz (0 + i) c)) (λ c. each s.rows (λ r. horz r c)) s.cols (λ c l. from_0 (λ r. horz r c) s.rows))

  -- bands of rows
  pub bands_walk : (a : ℕ → ℕ) (n : ℕ) → bands_of s steps g a n ≡ banded vert horz s.cols a (λ k. ready s.rows (a k)) n
  unfolding bands_of band_of
  bands_walk a n =
      each_same _ _ n (λ k l.
      ap₂ (λ (x y : List Edge). x ++ y)
      (vert_sweep (a k) (a (suc k) - a k) s.cols)
      (horz_sweep (ready s.rows (a k)) (ready s.rows (a (suc k)) - ready s.rows (a k)) s.cols))
