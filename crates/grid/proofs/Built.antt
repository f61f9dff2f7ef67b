-- What a built TU grid holds: marks 0 or 1 and size indices 0..6 at every cell, so that none of its cells is bad; and its entry's keep marks, 0 at every cell.
-- Assumes nothing.
use mathlib.Core.Path.{◌≡◌, refl, sym}
use mathlib.Core.List.{List, [], ◌∷◌}
use mathlib.Core.Bool.{Bool, true, false}
use Prim.Native.Nat.{ℕ, zero, suc, ◌+◌, ◌*◌, ◌/◌, ◌%◌, ◌≤◌, ◌<◌}
use native.Mathlib.Omega.{arith}
use lib.ListN.{length, get_or, set}
use lib.Dec.{ltb, eqb}
use borrow.Author.Tests.{le-leb}
use Rattle.laws.specs.Choose.{pick, both, all}
use Rattle.laws.specs.Loops.{turns_keep}
use Rattle.rules.specs.declared.settings.TuGrid.{TuGrid}
use Rattle.rules.specs.declared.settings.Tile.{Tile}
use Rattle.rules.specs.declared.settings.Plane.{Plane}
use Rattle.std.specs.declared.result.Result.TheVariants.{Ok}
use Rattle.std.specs.declared.option.Option.TheVariants.{None}
use Rattle.rules.specs.Refusals.{settle}
use Rattle.rules.specs.Plane.{grid, cell_good, bad_cell}
use Rattle.rules.specs.TuGrid.{Marks, mark_of, log2_of, paint_cell, paint_row, paint_of, leaf_of, leaves_of, clear_of, tx_grid_of, cleared_after}
use Rattle.checks.proofs.First.{all_nothing, found_unless_not}
use Rattle.tiles.proofs.Turns.{turns_hit, set_keeps}
use Rattle.grid.specs.Stated.{Stated}
use Rattle.grid.proofs.Covers.{Column, stored, vedge_column, hedge_column, sqw_column, sqh_column}

-- ---- stores in a list, at one of its places

set_none : (l : List ℕ) (i : ℕ) → get_or (set l i 0) i 0 ≡ 0
set_none [] i = refl
set_none (y ∷ l) zero = refl
set_none (y ∷ l) (suc i) = set_none l i

clear_none : (n i : ℕ) (l : List ℕ) → i < n → get_or (clear_of n l) i 0 ≡ 0
unfolding clear_of
clear_none n i l h =
    turns_hit (λ x. get_or x i 0 ≡ 0) (λ x. Unit) (λ k x. set x k 0) n i l h (λ j x q. tt) tt (λ x q. set_none x i)
    (λ j x a b p. set_keeps (λ m. m ≡ 0) x j 0 i refl p)

-- ---- the TU grid: one of its four lists, whose numbers are at most top

module _ {look : Marks → List ℕ} {val : Tile → ℕ → ℕ → ℕ} (column : Column look val) (top : ℕ) (most : (a : Tile) (dr dc : ℕ) → val a dr dc ≤ top) (s : TuGrid) (i : ℕ) where
  abbrev Low : Marks → Type 0
  Low g = get_or (look g) i 0 ≤ top

  cell_low : (a : Tile) (dr dc : ℕ) (g : Marks) → Low g → Low (paint_cell s a dr dc g)
  unfolding paint_cell pick
  cell_low a dr dc g k = go (both (ltb (a.row + dr) s.rows) (ltb (a.col + dc) s.cols))
    where
      go : (b : Bool) → get_or (look (pick b (stored a dr dc ((a.row + dr) * s.cols + (a.col + dc)) g) g)) i 0 ≤ top
      go true = rw (column.writes a dr dc ((a.row + dr) * s.cols + (a.col + dc)) g) (set_keeps (λ m. m ≤ top) (look g) _ (val a dr dc) i (most a dr dc) k)
      go false = k

  leaves_low : (skip : Bool) (ls : List ℕ) (g : Marks) → Low g → Low (leaves_of s skip ls g)
  unfolding leaves_of paint_of paint_row
  leaves_low skip ls g k =
      turns_keep _ g Low (length ls / 4) k (λ j x h p. turns_keep _ x Low (leaf_of s skip ls j).h p (λ dr y h p. turns_keep _ y Low (leaf_of s skip ls j).w p (λ dc z h. cell_low (leaf_of s skip ls j) dr dc z)))

  pub built_low : (ls skips : List ℕ) (g : Marks) → i < s.rows * s.cols → Low (tx_grid_of s ls skips g)
  unfolding tx_grid_of
  built_low ls skips g h =
      leaves_low true skips _
      (leaves_low false ls _ (rw (column.clears (s.rows * s.cols) g, clear_none (s.rows * s.cols) i (look g) h) (omega arith)))

mark_most : (d t : ℕ) → mark_of d t ≤ 1
unfolding mark_of pick
mark_most d t = go (eqb (d % t) 0)
  where
    go : (b : Bool) → pick b 1 0 ≤ 1
    go true = omega arith
    go false = omega arith

pick_most : (b : Bool) (m n top : ℕ) → m ≤ top → n ≤ top → pick b m n ≤ top
unfolding pick
pick_most true m n top p q = p
pick_most false m n top p q = q

log2_most : (n : ℕ) → log2_of n ≤ 6
unfolding log2_of
log2_most n =
    pick_most _ _ _ 6 (omega arith)
    (pick_most _ _ _ 6 (omega arith)
    (pick_most _ _ _ 6 (omega arith)
    (pick_most _ _ _ 6 (omega arith)
    (pick_most _ _ _ 6 (omega arith)
    (pick_most _ _ _ 6 (omega arith) (omega arith))))))

-- a built cell has marks 0 or 1 and indices 0..6
pub cell_good_holds : (s : TuGrid) (ls skips : List ℕ) (g : Marks) (q : List ℕ) (k : ℕ) → k < s.rows * s.cols → cell_good (grid (tx_grid_of s ls skips g).vedge (tx_grid_of s ls skips g).hedge (tx_grid_of s ls skips g).sqw (tx_grid_of s ls skips g).sqh q) k ≡ true
unfolding cell_good all
cell_good_holds s ls skips g q k h =
    rw (
      le-leb _ _ (built_low vedge_column 1 (λ a dr dc. mark_most dc a.tw) s k ls skips g h),
      le-leb _ _ (built_low hedge_column 1 (λ a dr dc. mark_most dr a.th) s k ls skips g h),
      le-leb _ _ (built_low sqw_column 6 (λ a dr dc. log2_most a.tw) s k ls skips g h),
      le-leb _ _ (built_low sqh_column 6 (λ a dr dc. log2_most a.th) s k ls skips g h),
    )

-- so a plane of these cells has no bad one
pub no_bad_cell : (p : Plane) (s : TuGrid) (ls skips : List ℕ) (g : Marks) (q : List ℕ) → p.rows ≡ s.rows → p.cols ≡ s.cols → bad_cell p (grid (tx_grid_of s ls skips g).vedge (tx_grid_of s ls skips g).hedge (tx_grid_of s ls skips g).sqw (tx_grid_of s ls skips g).sqh q) ≡ None
unfolding bad_cell
no_bad_cell p s ls skips g q er ec =
    rw (er, ec) (all_nothing _ (s.rows * s.cols) (λ k h. sym (found_unless_not _ k (sym (cell_good_holds s ls skips g q k h)))))

-- ticket 7, "The TU grid alone clears the mark": no cell of an accepted grid is kept, whatever its mark was
pub none_kept : {s : TuGrid} {ls skips : List ℕ} {g : Marks} {k : List ℕ} {m : Marks} {n : List ℕ} → Stated s ls skips g k (Ok tt) m n → (i : ℕ) → i < s.rows * s.cols → get_or n i 0 ≡ 0
unfolding cleared_after settle
none_kept {s} {k = k} p i h = rw (p.cleared, ← p.answer) (clear_none (s.rows * s.cols) i k h)
