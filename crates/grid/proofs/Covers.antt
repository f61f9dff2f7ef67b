-- "later leaves win": a cell's entries are those of the last leaf that covers it, once for all four lists; where none does, they are as they were.
-- Assumes nothing.
use mathlib.Core.Path.{◌≡◌, refl, sym, ◌∙◌}
use mathlib.Core.List.{List}
use mathlib.Core.Bool.{Bool, true, false}
use Prim.Native.Nat.{ℕ, ◌+◌, ◌-◌, ◌*◌, ◌/◌, ◌≤◌, ◌<◌}
use native.Mathlib.Omega.{arith}
use lib.ListN.{length, get_or, set, length-set}
use lib.Seq.{get_or-set_other, get_or-set_same}
use lib.Dec.{ltb}
use borrow.Author.Tests.{ltb-true, lt-ltb}
use Rattle.laws.specs.Choose.{pick, both}
use Rattle.laws.specs.Loops.{turns_keep}
use Rattle.rules.specs.declared.settings.TuGrid.{TuGrid}
use Rattle.rules.specs.declared.settings.Tile.{Tile}
use Rattle.rules.specs.TuGrid.{Marks, mark_of, log2_of, store_cell, paint_cell, paint_row, paint_of, leaf_of, leaves_of, clear_of, blank_of}
use Rattle.tiles.proofs.Places.{same_row, same_col}
use Rattle.tiles.proofs.Turns.{turns_hit}

-- the tile a covers the cell r, c
pub record Covers (a : Tile) (r c : ℕ) : Type 0 where
  pub below : a.row ≤ r
  pub above : r < a.row + a.h
  pub right : a.col ≤ c
  pub left : c < a.col + a.w

-- what a tile stores at one place
abbrev pub stored : Tile → ℕ → ℕ → ℕ → Marks → Marks
stored a dr dc at g = store_cell at (mark_of dc a.tw) (mark_of dr a.th) (log2_of a.tw) (log2_of a.th) g

-- one of the four lists, and what a tile writes into it at its cell dr, dc
pub record Column (look : Marks → List ℕ) (val : Tile → ℕ → ℕ → ℕ) : Type 0 where
  pub writes : (a : Tile) (dr dc at : ℕ) (g : Marks) → look (stored a dr dc at g) ≡ set (look g) at (val a dr dc)
  pub clears : (n : ℕ) (g : Marks) → look (blank_of n g) ≡ clear_of n (look g)

pub vedge_column : Column (λ g. g.vedge) (λ a dr dc. mark_of dc a.tw)
unfolding store_cell
vedge_column = record { writes = λ a dr dc at g. refl; clears = λ n g. refl }

pub hedge_column : Column (λ g. g.hedge) (λ a dr dc. mark_of dr a.th)
unfolding store_cell
hedge_column = record { writes = λ a dr dc at g. refl; clears = λ n g. refl }

pub sqw_column : Column (λ g. g.sqw) (λ a dr dc. log2_of a.tw)
unfolding store_cell
sqw_column = record { writes = λ a dr dc at g. refl; clears = λ n g. refl }

pub sqh_column : Column (λ g. g.sqh) (λ a dr dc. log2_of a.th)
unfolding store_cell
sqh_column = record { writes = λ a dr dc at g. refl; clears = λ n g. refl }

module _ {look : Marks → List ℕ} {val : Tile → ℕ → ℕ → ℕ} (column : Column look val) (s : TuGrid) (r c : ℕ) (hr : r < s.rows) (hc : c < s.cols) where
  abbrev Is : ℕ → Marks → Type 0
  Is x g = get_or (look g) (r * s.cols + c) 0 ≡ x

  abbrev Has : Marks → Type 0
  Has g = r * s.cols + c < length (look g)

  cell_has : (a : Tile) (dr dc : ℕ) (g : Marks) → Has g → Has (paint_cell s a dr dc g)
  unfolding paint_cell pick both
  cell_has a dr dc g k = go (ltb (a.row + dr) s.rows) (ltb (a.col + dc) s.cols)
    where
      go : (p q : Bool) → r * s.cols + c < length (look (pick (both p q) (stored a dr dc ((a.row + dr) * s.cols + (a.col + dc)) g) g))
      go true true = rw (column.writes a dr dc ((a.row + dr) * s.cols + (a.col + dc)) g, length-set) k
      go true false = k
      go false q = k

  cell_hit : (a : Tile) (dr dc : ℕ) (g : Marks) → a.row + dr ≡ r → a.col + dc ≡ c → Has g → Is (val a dr dc) (paint_cell s a dr dc g)
  unfolding paint_cell pick both
  cell_hit a dr dc g e f k =
      let x : a.row + dr < s.rows = omega arith in
      let y : a.col + dc < s.cols = omega arith in
      rw (lt-ltb _ _ x, lt-ltb _ _ y, column.writes a dr dc ((a.row + dr) * s.cols + (a.col + dc)) g, e, f) (get_or-set_same (look g) (r * s.cols + c) (val a dr dc) 0 k)

  cell_miss : (a : Tile) (dr dc x : ℕ) (g : Marks) → (a.row + dr ≡ r → a.col + dc ≡ c → ⊥) → Is x g → Is x (paint_cell s a dr dc g)
  unfolding paint_cell pick both
  cell_miss a dr dc x g off k = go (ltb (a.row + dr) s.rows) (ltb (a.col + dc) s.cols) refl refl
    where
      go : (p q : Bool) → ltb (a.row + dr) s.rows ≡ p → ltb (a.col + dc) s.cols ≡ q → get_or (look (pick (both p q) (stored a dr dc ((a.row + dr) * s.cols + (a.col + dc)) g) g)) (r * s.cols + c) 0 ≡ x
      go true true e f =
          let y = ltb-true _ _ f in
          rw (column.writes a dr dc ((a.row + dr) * s.cols + (a.col + dc)) g)
          (get_or-set_other (look g) ((a.row + dr) * s.cols + (a.col + dc)) (r * s.cols + c) (val a dr dc) 0
          (λ q. off (sym (same_row r (a.row + dr) c (a.col + dc) s.cols hc y q)) (sym (same_col r (a.row + dr) c (a.col + dc) s.cols hc y q)))
          ∙ k)
      go true false e f = k
      go false q e f = k

  row_has : (a : Tile) (dr : ℕ) (g : Marks) → Has g → Has (paint_row s a dr g)
  unfolding paint_row
  row_has a dr g k = turns_keep _ g Has a.w k (λ dc y h. cell_has a dr dc y)

  paint_has : (a : Tile) (g : Marks) → Has g → Has (paint_of s a g)
  unfolding paint_of
  paint_has a g k = turns_keep _ g Has a.h k (λ dr y h. row_has a dr y)

  -- a tile that covers the cell writes it, and one that does not keeps it
  pub paint_in : (a : Tile) (g : Marks) → Covers a r c → Has g → Is (val a (r - a.row) (c - a.col)) (paint_of s a g)
  unfolding paint_of paint_row
  paint_in a g v k =
      let e : a.row + (r - a.row) ≡ r = omega arith in
      let f : a.col + (c - a.col) ≡ c = omega arith in
      turns_hit (Is (val a (r - a.row) (c - a.col))) Has (λ dr. paint_row s a dr) a.h (r - a.row) g (omega arith) (λ j y. row_has a j y) k
      (λ y q. turns_hit (Is (val a (r - a.row) (c - a.col))) Has (λ dc. paint_cell s a (r - a.row) dc) a.w (c - a.col) y (omega arith) (λ j z. cell_has a (r - a.row) j z) q (λ z p. cell_hit a (r - a.row) (c - a.col) z e f p) (λ j z lt h. cell_miss a (r - a.row) j _ z (λ x w. omega arith)))
      (λ j y lt h p. turns_keep (λ dc. paint_cell s a j dc) y (Is (val a (r - a.row) (c - a.col))) a.w p (λ dc z h'. cell_miss a j dc _ z (λ x w. omega arith)))

  pub paint_out : (a : Tile) (x : ℕ) (g : Marks) → (Covers a r c → ⊥) → Is x g → Is x (paint_of s a g)
  unfolding paint_of paint_row
  paint_out a x g off k =
      turns_keep (λ dr. paint_row s a dr) g (Is x) a.h k (λ dr y h p. turns_keep (λ dc. paint_cell s a dr dc) y (Is x) a.w p (λ dc z h'. cell_miss a dr dc x z (λ p q. off (record { below = omega arith; above = omega arith; right = omega arith; left = omega arith }))))

  -- the last leaf of a list that covers the cell decides
  pub leaves_last : (skip : Bool) (ls : List ℕ) (k : ℕ) (g : Marks) → k < length ls / 4 → Covers (leaf_of s skip ls k) r c → ((j : ℕ) → k < j → j < length ls / 4 → Covers (leaf_of s skip ls j) r c → ⊥) → Has g → Is (val (leaf_of s skip ls k) (r - (leaf_of s skip ls k).row) (c - (leaf_of s skip ls k).col)) (leaves_of s skip ls g)
  unfolding leaves_of
  leaves_last skip ls k g lt v later q =
      turns_hit (Is (val (leaf_of s skip ls k) (r - (leaf_of s skip ls k).row) (c - (leaf_of s skip ls k).col))) Has (λ j. paint_of s (leaf_of s skip ls j)) (length ls / 4) k g lt (λ j y. paint_has (leaf_of s skip ls j) y) q (λ y p. paint_in (leaf_of s skip ls k) y v p) (λ j y a b. paint_out (leaf_of s skip ls j) _ y (later j a b))

  -- where no leaf covers it, it is as it was
  pub leaves_none : (skip : Bool) (ls : List ℕ) (x : ℕ) (g : Marks) → ((j : ℕ) → j < length ls / 4 → Covers (leaf_of s skip ls j) r c → ⊥) → Is x g → Is x (leaves_of s skip ls g)
  unfolding leaves_of
  leaves_none skip ls x g none k = turns_keep (λ j. paint_of s (leaf_of s skip ls j)) g (Is x) (length ls / 4) k (λ j y h. paint_out (leaf_of s skip ls j) x y (none j h))
