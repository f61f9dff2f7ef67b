-- Building a grid keeps the length of each of its lists.
-- Assumes nothing.
use mathlib.Core.Path.{◌≡◌, refl, ◌∙◌}
use mathlib.Core.List.{List}
use mathlib.Core.Bool.{Bool, true, false}
use Prim.Native.Nat.{ℕ, ◌+◌, ◌*◌, ◌/◌}
use lib.ListN.{length, set, length-set}
use lib.Dec.{ltb}
use Rattle.laws.specs.Choose.{pick, both}
use Rattle.laws.specs.Loops.{turns_keep}
use Rattle.rules.specs.declared.settings.TuGrid.{TuGrid}
use Rattle.rules.specs.declared.settings.Tile.{Tile}
use Rattle.rules.specs.declared.settings.QindexGrid.{QindexGrid}
use Rattle.rules.specs.TuGrid.{Marks, store_cell, paint_cell, paint_row, paint_of, leaf_of, leaves_of, clear_of, tx_grid_of}
use Rattle.rules.specs.QindexGrid.{q_cell, q_row, q_grid_of}

module _ (s : TuGrid) (v h w t : ℕ) where
  abbrev Long : Marks → Type 0
  Long g = (length g.vedge ≡ v) × (length g.hedge ≡ h) × (length g.sqw ≡ w) × (length g.sqh ≡ t)

  store_keeps : (at a b c d : ℕ) (g : Marks) → Long g → Long (store_cell at a b c d g)
  unfolding store_cell
  store_keeps at a b c d g k =
      (length-set g.vedge at a ∙ k.0, length-set g.hedge at b ∙ k.1, length-set g.sqw at c ∙ k.2, length-set g.sqh at d ∙ k.3)

  picked : (p : Bool) (a b : Marks) → Long a → Long b → Long (pick p a b)
  unfolding pick
  picked true a b x y = x
  picked false a b x y = y

  cell_keeps : (a : Tile) (dr dc : ℕ) (g : Marks) → Long g → Long (paint_cell s a dr dc g)
  unfolding paint_cell
  cell_keeps a dr dc g k = picked _ _ g (store_keeps _ _ _ _ _ g k) k

  paint_keeps : (a : Tile) (g : Marks) → Long g → Long (paint_of s a g)
  unfolding paint_of paint_row
  paint_keeps a g k = turns_keep _ g Long a.h k (λ dr y h p. turns_keep _ y Long a.w p (λ dc z h. cell_keeps a dr dc z))

  leaves_keep : (skip : Bool) (ls : List ℕ) (g : Marks) → Long g → Long (leaves_of s skip ls g)
  unfolding leaves_of
  leaves_keep skip ls g k = turns_keep _ g Long (length ls / 4) k (λ j y h. paint_keeps (leaf_of s skip ls j) y)

clear_keeps : (n : ℕ) (xs : List ℕ) → length (clear_of n xs) ≡ length xs
unfolding clear_of
clear_keeps n xs = turns_keep _ xs (λ l. length l ≡ length xs) n refl (λ j l h e. length-set l j 0 ∙ e)

pub tx_lengths : (s : TuGrid) (ls ks : List ℕ) (g : Marks) → (length (tx_grid_of s ls ks g).vedge ≡ length g.vedge) × (length (tx_grid_of s ls ks g).hedge ≡ length g.hedge) × (length (tx_grid_of s ls ks g).sqw ≡ length g.sqw) × (length (tx_grid_of s ls ks g).sqh ≡ length g.sqh)
unfolding tx_grid_of
tx_lengths s ls ks g =
    leaves_keep s _ _ _ _ true ks _
    (leaves_keep s _ _ _ _ false ls _ (clear_keeps _ g.vedge, clear_keeps _ g.hedge, clear_keeps _ g.sqw, clear_keeps _ g.sqh))

pub q_length : (s : QindexGrid) (sbq q : List ℕ) → length (q_grid_of s sbq q) ≡ length q
unfolding q_grid_of q_row q_cell
q_length s sbq q =
    turns_keep _ q (λ l. length l ≡ length q) s.rows refl (λ r y h p. turns_keep _ y (λ l. length l ≡ length q) s.cols p (λ c z h e. length-set z _ _ ∙ e))
