-- "what lies beyond is kept": an entry past the plane's cells is as it was lent, in all four lists of a TU grid and in the keep marks.
-- Assumes nothing.
use mathlib.Core.Path.{◌≡◌, refl, ◌∙◌}
use mathlib.Core.List.{List}
use mathlib.Core.Bool.{Bool, true, false}
use Prim.Native.Nat.{ℕ, ◌+◌, ◌*◌, ◌/◌, ◌≤◌, ◌<◌}
use native.Mathlib.Omega.{arith}
use lib.ListN.{length, get_or}
use lib.Seq.{get_or-set_other}
use lib.Dec.{ltb}
use borrow.Author.Tests.{ltb-true}
use Rattle.laws.specs.Choose.{pick, both}
use Rattle.laws.specs.Loops.{turns_keep}
use Rattle.rules.specs.declared.settings.TuGrid.{TuGrid}
use Rattle.rules.specs.declared.settings.Tile.{Tile}
use Rattle.rules.specs.Refusals.{Answer}
use Rattle.std.specs.declared.result.Result.TheVariants.{Ok, Err}
use Rattle.rules.specs.Refusals.{settle}
use Rattle.rules.specs.TuGrid.{Marks, mark_of, log2_of, store_cell, paint_cell, paint_row, paint_of, leaf_of, leaves_of, clear_of, tx_grid_of, tx_grid_check, tx_grid_after, cleared_after}
use Rattle.tiles.proofs.Places.{place_below}

module _ (s : TuGrid) (i : ℕ) (far : s.rows * s.cols ≤ i) (v h w t : ℕ) where
  abbrev Kept : Marks → Type 0
  Kept g = (get_or g.vedge i 0 ≡ v) × (get_or g.hedge i 0 ≡ h) × (get_or g.sqw i 0 ≡ w) × (get_or g.sqh i 0 ≡ t)

  store_keeps : (at a b c d : ℕ) (g : Marks) → at < i → Kept g → Kept (store_cell at a b c d g)
  unfolding store_cell
  store_keeps at a b c d g lt k =
      let ne : i ≡ at → ⊥ = λ e. omega arith in
      (get_or-set_other g.vedge at i a 0 ne ∙ k.0, get_or-set_other g.hedge at i b 0 ne ∙ k.1, get_or-set_other g.sqw at i c 0 ne ∙ k.2, get_or-set_other g.sqh at i d 0 ne ∙ k.3)

  cell_keeps : (a : Tile) (dr dc : ℕ) (g : Marks) → Kept g → Kept (paint_cell s a dr dc g)
  unfolding paint_cell pick both
  cell_keeps a dr dc g k = go (ltb (a.row + dr) s.rows) (ltb (a.col + dc) s.cols) refl refl
    where
      go : (p q : Bool) → ltb (a.row + dr) s.rows ≡ p → ltb (a.col + dc) s.cols ≡ q → Kept (pick (both p q) (store_cell ((a.row + dr) * s.cols + (a.col + dc)) (mark_of dc a.tw) (mark_of dr a.th) (log2_of a.tw) (log2_of a.th) g) g)
      go true true e f = store_keeps _ _ _ _ _ g (omega (arith, place_below (a.row + dr) s.rows (a.col + dc) s.cols (ltb-true _ _ e) (ltb-true _ _ f))) k
      go true false e f = k
      go false q e f = k

  paint_keeps : (a : Tile) (g : Marks) → Kept g → Kept (paint_of s a g)
  unfolding paint_of paint_row
  paint_keeps a g k = turns_keep _ g Kept a.h k (λ dr y h p. turns_keep _ y Kept a.w p (λ dc z h. cell_keeps a dr dc z))

  leaves_keep : (skip : Bool) (ls : List ℕ) (g : Marks) → Kept g → Kept (leaves_of s skip ls g)
  unfolding leaves_of
  leaves_keep skip ls g k = turns_keep _ g Kept (length ls / 4) k (λ j y h. paint_keeps (leaf_of s skip ls j) y)

clear_keeps : (n i a : ℕ) (xs : List ℕ) → n ≤ i → get_or xs i 0 ≡ a → get_or (clear_of n xs) i 0 ≡ a
unfolding clear_of
clear_keeps n i a xs far k = turns_keep _ xs (λ l. get_or l i 0 ≡ a) n k (λ j l h e. get_or-set_other l j i 0 0 (λ q. omega arith) ∙ e)

-- an entry of each list is as it was
pub record Alike (g' g : Marks) (i : ℕ) : Type 0 where
  pub at_vedge : get_or g'.vedge i 0 ≡ get_or g.vedge i 0
  pub at_hedge : get_or g'.hedge i 0 ≡ get_or g.hedge i 0
  pub at_sqw : get_or g'.sqw i 0 ≡ get_or g.sqw i 0
  pub at_sqh : get_or g'.sqh i 0 ≡ get_or g.sqh i 0

pub tx_beyond : (s : TuGrid) (ls skips : List ℕ) (g : Marks) (i : ℕ) → s.rows * s.cols ≤ i → Alike (tx_grid_of s ls skips g) g i
unfolding tx_grid_of
tx_beyond s ls skips g i far =
    let k =
    leaves_keep s i far _ _ _ _ true skips _
    (leaves_keep s i far _ _ _ _ false ls _
    (clear_keeps _ i _ g.vedge far refl, clear_keeps _ i _ g.hedge far refl, clear_keeps _ i _ g.sqw far refl, clear_keeps _ i _ g.sqh far refl))
    in
    record { at_vedge = k.0; at_hedge = k.1; at_sqw = k.2; at_sqh = k.3 }

alike : (g : Marks) (i : ℕ) → Alike g g i
alike g i = record { at_vedge = refl; at_hedge = refl; at_sqw = refl; at_sqh = refl }

-- the same of the entry, whatever it answers
pub entry_beyond : (s : TuGrid) (ls skips : List ℕ) (g : Marks) (keep : List ℕ) (i : ℕ) → s.rows * s.cols ≤ i → Alike (tx_grid_after s ls skips g keep) g i
unfolding tx_grid_after settle
entry_beyond s ls skips g keep i far = by (tx_grid_check s ls skips g keep)
  where
    by : (a : Answer) → Alike (settle a g (tx_grid_of s ls skips g)) g i
    by (Ok tt) = tx_beyond s ls skips g i far
    by (Err r) = alike g i

-- and of the keep marks
pub cleared_beyond : (s : TuGrid) (ls skips : List ℕ) (g : Marks) (keep : List ℕ) (i : ℕ) → s.rows * s.cols ≤ i → get_or (cleared_after s ls skips g keep) i 0 ≡ get_or keep i 0
unfolding cleared_after settle
cleared_beyond s ls skips g keep i far = by (tx_grid_check s ls skips g keep)
  where
    by : (a : Answer) → get_or (settle a keep (clear_of (s.rows * s.cols) keep)) i 0 ≡ get_or keep i 0
    by (Ok tt) = clear_keeps _ i _ keep far refl
    by (Err r) = refl
