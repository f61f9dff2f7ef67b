-- What painting does at each of its ways out: a cell outside the plane, a cell within, a leaf, a grid built.
-- Assumes nothing.
use mathlib.Core.Path.{◌≡◌}
use mathlib.Core.List.{List}
use mathlib.Core.Bool.{true, false}
use Prim.Native.Nat.{ℕ, ◌+◌, ◌*◌, ◌≤◌, ◌<◌}
use borrow.Author.Tests.{lt-ltb, le-ltb}
use Rattle.laws.specs.Choose.{pick, both}
use Rattle.rules.specs.declared.settings.TuGrid.{TuGrid}
use Rattle.rules.specs.declared.settings.Tile.{Tile}
use Rattle.rules.specs.TuGrid.{Marks, mark_of, log2_of, store_cell, paint_cell, paint_of, leaves_of, blank_of, tx_grid_of}

module _ (s : TuGrid) (a : Tile) (dr dc : ℕ) (g : Marks) where
  pub cell_below : s.rows ≤ a.row + dr → g ≡ paint_cell s a dr dc g
  unfolding paint_cell pick both
  cell_below h = rw (le-ltb _ _ h)

  pub cell_right : a.row + dr < s.rows → s.cols ≤ a.col + dc → g ≡ paint_cell s a dr dc g
  unfolding paint_cell pick both
  cell_right r h = rw (lt-ltb _ _ r, le-ltb _ _ h)

  pub cell_within : {g' : Marks} (m n i j : ℕ) → a.row + dr < s.rows → a.col + dc < s.cols → m ≡ mark_of dc a.tw → n ≡ mark_of dr a.th → i ≡ log2_of a.tw → j ≡ log2_of a.th → g' ≡ store_cell ((a.row + dr) * s.cols + (a.col + dc)) m n i j g → g' ≡ paint_cell s a dr dc g
  unfolding paint_cell pick both
  cell_within m n i j r c em en ei ej e = rw (lt-ltb _ _ r, lt-ltb _ _ c, ← em, ← en, ← ei, ← ej) e

pub tile_painted : (s : TuGrid) (a b : Tile) (g : Marks) {g' : Marks} → a ≡ b → g' ≡ paint_of s a g → g' ≡ paint_of s b g
tile_painted s a b g e f = rw e at f

pub lists_painted : (s : TuGrid) (ls skips : List ℕ) (g g1 : Marks) {g2 : Marks} → g1 ≡ leaves_of s false ls g → g2 ≡ leaves_of s true skips g1 → g2 ≡ leaves_of s true skips (leaves_of s false ls g)
lists_painted s ls skips g g1 e f = rw (← e) f

pub grid_built : (s : TuGrid) (ls skips : List ℕ) (g g0 : Marks) {g2 : Marks} → g0 ≡ blank_of (s.rows * s.cols) g → g2 ≡ leaves_of s true skips (leaves_of s false ls g0) → g2 ≡ tx_grid_of s ls skips g
unfolding tx_grid_of
grid_built s ls skips g g0 a e = rw (← a) e
