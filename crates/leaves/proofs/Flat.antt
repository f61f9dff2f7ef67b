-- A list of records as a list of numbers: its length and the four numbers of leaf k; and the turns of a walk over it, in the words of the rules.
-- Assumes nothing.
use mathlib.Core.Path.{◌≡◌, refl, sym, ap, ◌∙◌}
use mathlib.Core.Bool.{Bool, true, false}
use mathlib.Core.List.{List, [], ◌∷◌}
use Prim.Native.Nat.{ℕ, zero, suc, ◌+◌, ◌*◌, ◌/◌, ◌≤◌, ◌<◌}
use native.Mathlib.Omega.{arith}
use lib.ListN.{length, get_or}
use Rattle.laws.specs.Loops.{turns, turns_more, turns_end}
use Rattle.rules.specs.declared.settings.TuGrid.{TuGrid}
use Rattle.std.specs.declared.option.Option.{Option}
use Rattle.std.specs.declared.option.Option.TheVariants.{None}
use Rattle.rules.specs.Refusals.{first, found_unless}
use Rattle.rules.specs.TuGrid.{Marks, tile_of, paint_of, leaf_of, leaves_of, leaf_good, leaf_good_at, bad_leaf}
use Rattle.checks.proofs.First.{first_more, first_found, first_end, found_unless_holds, found_unless_not}
use Rattle.tiles.specs.Fit.{Good, AllGood}
use Rattle.leaves.specs.declared.records.Leaf.{Leaf}
use Rattle.leaves.specs.Records.{none, flat, place_or, good_of}

-- ---- its numbers

pub flat_length : (ls : List Leaf) → length (flat ls) ≡ length ls * 4
unfolding flat
flat_length [] = refl
flat_length (l ∷ ls) = let e = flat_length ls in omega arith

pub flat_count : (ls : List Leaf) → length (flat ls) / 4 ≡ length ls
flat_count ls = let e = flat_length ls in omega arith

-- leaf k + 1's numbers are leaf k's of what is left
next : (l : Leaf) (ls : List Leaf) (k j : ℕ) → get_or (flat (l ∷ ls)) (suc k * 4 + j) 0 ≡ get_or (flat ls) (k * 4 + j) 0
unfolding flat
next l ls k j = let e : suc k * 4 + j ≡ suc (suc (suc (suc (k * 4 + j)))) = omega arith in ap (λ (i : ℕ). get_or (flat (l ∷ ls)) i 0) e

row_first : (ls : List Leaf) (k : ℕ) → get_or (flat ls) (k * 4 + 0) 0 ≡ (get_or ls k none).row
unfolding flat
row_first [] k = refl
row_first (l ∷ ls) zero = refl
row_first (l ∷ ls) (suc k) = next l ls k 0 ∙ row_first ls k

pub flat_row : (ls : List Leaf) (k : ℕ) → get_or (flat ls) (k * 4) 0 ≡ (get_or ls k none).row
flat_row ls k = let e : k * 4 ≡ k * 4 + 0 = omega arith in ap (λ (i : ℕ). get_or (flat ls) i 0) e ∙ row_first ls k

pub flat_col : (ls : List Leaf) (k : ℕ) → get_or (flat ls) (k * 4 + 1) 0 ≡ (get_or ls k none).col
unfolding flat
flat_col [] k = refl
flat_col (l ∷ ls) zero = refl
flat_col (l ∷ ls) (suc k) = next l ls k 1 ∙ flat_col ls k

pub flat_w : (ls : List Leaf) (k : ℕ) → get_or (flat ls) (k * 4 + 2) 0 ≡ (get_or ls k none).w
unfolding flat
flat_w [] k = refl
flat_w (l ∷ ls) zero = refl
flat_w (l ∷ ls) (suc k) = next l ls k 2 ∙ flat_w ls k

pub flat_h : (ls : List Leaf) (k : ℕ) → get_or (flat ls) (k * 4 + 3) 0 ≡ (get_or ls k none).h
unfolding flat
flat_h [] k = refl
flat_h (l ∷ ls) zero = refl
flat_h (l ∷ ls) (suc k) = next l ls k 3 ∙ flat_h ls k

-- ---- its leaves

pub flat_tile : (s : TuGrid) (skip : Bool) (ls : List Leaf) (k : ℕ) → leaf_of s skip (flat ls) k ≡ tile_of s skip (get_or ls k none).row (get_or ls k none).col (get_or ls k none).w (get_or ls k none).h
unfolding leaf_of
flat_tile s skip ls k = rw (flat_row ls k, flat_col ls k, flat_w ls k, flat_h ls k)

pub flat_good : (skip : Bool) (ls : List Leaf) (k : ℕ) → leaf_good_at skip (flat ls) k ≡ leaf_good skip (get_or ls k none).row (get_or ls k none).col (get_or ls k none).w (get_or ls k none).h
unfolding leaf_good_at
flat_good skip ls k = rw (flat_row ls k, flat_col ls k, flat_w ls k, flat_h ls k)

pub flat_each : (ls : List Leaf) (k : ℕ) → AllGood (flat ls) → k < length ls → Good (get_or ls k none).row (get_or ls k none).col (get_or ls k none).w (get_or ls k none).h
flat_each ls k all l = rw (flat_row ls k, flat_col ls k, flat_w ls k, flat_h ls k) at (all.each k (rw (flat_count ls) l))

-- ---- painting them in turn

module _ (s : TuGrid) (skip : Bool) (ls : List Leaf) (g₀ : Marks) where
  -- the first i are painted
  abbrev pub Painted : ℕ → Marks → Type 0
  Painted i g = g ≡ turns i (λ k. paint_of s (leaf_of s skip (flat ls) k)) g₀

  pub paint_more : (i : ℕ) (g : Marks) {g' : Marks} → Painted i g → g' ≡ paint_of s (tile_of s skip (get_or ls i none).row (get_or ls i none).col (get_or ls i none).w (get_or ls i none).h) g → Painted (i + 1) g'
  paint_more i g {g'} p e = turns_more (λ k. paint_of s (leaf_of s skip (flat ls) k)) g₀ i p (rw (flat_tile s skip ls i) e)

  pub paint_end : (i : ℕ) (g : Marks) → Painted i g → i ≤ length ls → length ls ≤ i → g ≡ leaves_of s skip (flat ls) g₀
  unfolding leaves_of
  paint_end i g p a b = rw (flat_count ls) (turns_end (λ k. paint_of s (leaf_of s skip (flat ls) k)) g₀ i (length ls) p a b)

-- ---- looking for a bad one

module _ (skip : Bool) (ls : List Leaf) where
  abbrev bad : ℕ → Option ℕ
  bad k = found_unless (leaf_good_at skip (flat ls) k) k

  -- none of the first i is bad
  abbrev pub Sound : ℕ → Type 0
  Sound i = first i bad ≡ None

  abbrev pub good_at : ℕ → Bool
  good_at i = leaf_good skip (get_or ls i none).row (get_or ls i none).col (get_or ls i none).w (get_or ls i none).h

  pub good_more : (i : ℕ) → Sound i → good_at i ≡ true → Sound (i + 1)
  good_more i p e = first_more bad i p (found_unless_not _ i (sym (flat_good skip ls i ∙ e)))

  pub good_stop : (i : ℕ) → Sound i → good_at i ≡ false → i < length ls → i ≡ good_of skip ls
  unfolding good_of bad_leaf place_or
  good_stop i p e l = rw (flat_count ls, ← first_found bad i (length ls) p (found_unless_holds _ i (sym (flat_good skip ls i ∙ e))) l)

  pub good_end : (i : ℕ) → Sound i → i ≤ length ls → length ls ≤ i → length ls ≡ good_of skip ls
  unfolding good_of bad_leaf place_or
  good_end i p a b = rw (flat_count ls, ← first_end bad i (length ls) p a b)
