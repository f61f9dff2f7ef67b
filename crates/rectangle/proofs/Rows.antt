-- The rows of marks that the code sets are the rectangle cut to the plane: a cell inside of it is set by one of them, and no other entry by any.
-- Assumes nothing.
use mathlib.Core.Path.{◌≡◌, refl, sym, ◌∙◌}
use mathlib.Core.Bool.{Bool, true, false}
use mathlib.Core.List.{List}
use Prim.Native.Nat.{ℕ, ◌+◌, ◌*◌, ◌-◌, ◌/◌, ◌%◌, ◌≤◌, ◌<◌}
use native.Mathlib.Nat.{div-add-mod', mod-lt, div-lt_iff_lt-mul, mul-le-mul_right, suc-mul}
use native.Mathlib.Decide.{dec_le}
use native.Mathlib.Omega.{arith}
use lib.ListN.{length, get_or, set, length-set}
use lib.Seq.{get_or-set_same, get_or-set_other, ext_get_or}
use borrow.Author.Rules.{rules}
use borrow.Author.Tests.{le-leb, lt-ltb, leb-true, ltb-true}
use mir.Val.{Fits}
use mir.Syntax.{w64}
use Rattle.laws.specs.Choose.{pick, all, all_parts, true_not_false}
use Rattle.laws.specs.Loops.{turns, turns_none, turns_more, turns_end, turns_keep, filled_length, filled_at, filled_beyond}
use Rattle.rules.specs.declared.settings.Keep.{Keep}
use Rattle.rules.specs.Keep.{in_rectangle, kept_at, kept_of}
use Rattle.tiles.proofs.Turns.{turns_hit, set_keeps}
use Rattle.tiles.proofs.Places.{place_below, same_row, same_col, row_fits, cell_fits}
use Rattle.rectangle.specs.Cut.{RectangleFits, part_of, row_set, rows_set, Inside}

-- ---- the row and the column of a cell

pub quotient : (r c cols : ℕ) → c < cols → (r * cols + c) / cols ≡ r
quotient r c cols h =
    same_row _ r _ c cols (mod-lt (r * cols + c) (omega arith)) h (div-add-mod' (r * cols + c) cols)

pub remainder : (r c cols : ℕ) → c < cols → (r * cols + c) % cols ≡ c
remainder r c cols h =
    same_col _ r _ c cols (mod-lt (r * cols + c) (omega arith)) h (div-add-mod' (r * cols + c) cols)

-- ---- the test of a cell, and what it says

pub inside_true : {s : Keep} {r c : ℕ} → Inside s r c → in_rectangle s r c ≡ true
unfolding in_rectangle all
inside_true p = rw (le-leb _ _ p.below, lt-ltb _ _ p.above, le-leb _ _ p.right, lt-ltb _ _ p.left)

pub true_inside : (s : Keep) (r c : ℕ) → in_rectangle s r c ≡ true → Inside s r c
unfolding in_rectangle
true_inside s r c e =
    let p1 = all_parts _ _ e in
    let p2 = all_parts _ _ p1.1 in
    let p3 = all_parts _ _ p2.1 in
    let p4 = all_parts _ _ p3.1 in
    record { below = leb-true _ _ p1.0; above = ltb-true _ _ p2.0; right = leb-true _ _ p3.0; left = ltb-true _ _ p4.0 }

-- ---- the rows that are set

module _ (s : Keep) (l : List ℕ) where
  abbrev High : ℕ
  High = part_of s.row s.h s.rows

  abbrev Wide : ℕ
  Wide = part_of s.col s.w s.cols

  abbrev Done : List ℕ
  Done = rows_set s High Wide l

  row_long : (at n : ℕ) (m : List ℕ) → length m ≡ length l → length (row_set at n m) ≡ length l
  unfolding row_set
  row_long at n m e = turns_keep _ m (λ x. length x ≡ length l) n e (λ j x h f. length-set x (at + j) 1 ∙ f)

  rows_long : length Done ≡ length l
  unfolding rows_set
  rows_long = turns_keep _ l (λ x. length x ≡ length l) High refl (λ i x h. row_long _ Wide x)

  -- an entry that no store meets
  rows_miss : (k : ℕ) → ((i j : ℕ) → i < High → j < Wide → k ≡ (s.row + i) * s.cols + s.col + j → ⊥) → get_or Done k 0 ≡ get_or l k 0
  unfolding rows_set row_set
  rows_miss k off =
      turns_keep _ l (λ x. get_or x k 0 ≡ get_or l k 0) High refl
      (λ i x hi e. turns_keep _ x (λ y. get_or y k 0 ≡ get_or l k 0) Wide e (λ j y hj f. get_or-set_other y _ k 1 0 (off i j hi hj) ∙ f))

  -- one that a store meets: it is set once, and no later store takes the 1 away
  module _ (k : ℕ) where
    abbrev One : List ℕ → Type 0
    One m = get_or m k 0 ≡ 1

    abbrev Has : List ℕ → Type 0
    Has m = k < length m

    has : (at : ℕ) (m : List ℕ) → Has m → Has (set m at 1)
    has at m h = rw length-set h

    keeps : (at : ℕ) (m : List ℕ) → One m → One (set m at 1)
    keeps at m p = set_keeps (λ x. x ≡ 1) m at 1 k refl p

    rows_hit : (i j : ℕ) → i < High → j < Wide → (s.row + i) * s.cols + s.col + j ≡ k → Has l → One Done
    unfolding rows_set row_set
    rows_hit i j hi hj e lt =
        turns_hit One Has (λ a. row_set ((s.row + a) * s.cols + s.col) Wide) High i l hi
        (λ a y q. turns_keep _ y Has Wide q (λ b m h. has _ m)) lt
        (λ y q. turns_hit One Has (λ b m. set m ((s.row + i) * s.cols + s.col + b) 1) Wide j y hj (λ b m. has _ m) q (λ m h. rw e (get_or-set_same m k 1 0 h)) (λ b m x z. keeps _ m))
        (λ a y x z p. turns_keep _ y One Wide p (λ b m h. keeps _ m))

  -- ---- every entry

  module _ (long : s.rows * s.cols ≤ length l) (r c : ℕ) (hr : r < s.rows) (hc : c < s.cols) where
    inside_one : Inside s r c → get_or Done (r * s.cols + c) 0 ≡ 1
    inside_one p =
        rows_hit (r * s.cols + c) (r - s.row) (c - s.col) (omega arith) (omega arith) (place (omega arith)) (omega (arith, place_below r s.rows c s.cols hr hc))
      where
        place : s.row + (r - s.row) ≡ r → (s.row + (r - s.row)) * s.cols + s.col + (c - s.col) ≡ r * s.cols + c
        place e = rw e (omega arith)

    outside_same : (Inside s r c → ⊥) → get_or Done (r * s.cols + c) 0 ≡ get_or l (r * s.cols + c) 0
    outside_same off = rows_miss (r * s.cols + c) (λ i j hi hj e. off (meets i j hi hj (omega arith)))
      where
        meets : (i j : ℕ) → i < High → j < Wide → r * s.cols + c ≡ (s.row + i) * s.cols + (s.col + j) → Inside s r c
        meets i j hi hj e =
            let h : s.col + j < s.cols = omega arith in
            let er = same_row r (s.row + i) c (s.col + j) s.cols hc h e in
            let ec = same_col r (s.row + i) c (s.col + j) s.cols hc h e in
            record { below = omega arith; above = omega arith; right = omega arith; left = omega arith }

    cell_done : get_or Done (r * s.cols + c) 0 ≡ pick (in_rectangle s r c) 1 (get_or l (r * s.cols + c) 0)
    unfolding pick
    cell_done = go (in_rectangle s r c) refl
      where
        go : (b : Bool) → in_rectangle s r c ≡ b → get_or Done (r * s.cols + c) 0 ≡ pick b 1 (get_or l (r * s.cols + c) 0)
        go true e = inside_one (true_inside s r c e)
        go false e = outside_same (λ p. true_not_false (sym e ∙ inside_true p))

  beyond_same : (k : ℕ) → s.rows * s.cols ≤ k → get_or Done k 0 ≡ get_or l k 0
  beyond_same k far = rows_miss k (λ i j hi hj e. omega (arith, place_below (s.row + i) s.rows (s.col + j) s.cols (omega arith) (omega arith)))

  pub rectangle_is : 1 ≤ s.cols → s.rows * s.cols ≤ length l → Done ≡ kept_of s l
  unfolding kept_of kept_at
  rectangle_is some long = ext_get_or 0 Done (kept_of s l) (rows_long ∙ sym (filled_length l (kept_at s l) (s.rows * s.cols))) (λ k _. elim (dec_le (s.rows * s.cols) k) [
    | yes h ↦ beyond_same k h ∙ sym (filled_beyond l (kept_at s l) 0 (s.rows * s.cols) k h)
    | no h ↦ within k (omega arith) ∙ sym (filled_at l (kept_at s l) 0 (s.rows * s.cols) k (omega arith) (omega arith))
  ])
    where
      within : (k : ℕ) → k < s.rows * s.cols → get_or Done k 0 ≡ kept_at s l k
      within k h = rw (div-add-mod' k s.cols) at (cell_done long (k / s.cols) (k % s.cols) ((div-lt_iff_lt-mul some).1 h) (mod-lt k some))

  -- no column is left
  pub rectangle_none : 1 ≤ s.cols → s.rows * s.cols ≤ length l → Wide ≡ 0 → l ≡ kept_of s l
  rectangle_none some long e = ext_get_or 0 l Done (sym rows_long) (λ k _. sym (rows_miss k (λ i j hi hj f. omega arith))) ∙ rectangle_is some long

-- ---- what the code's needs ask

module _ {s : Keep} {n high wide i : ℕ} (fit : RectangleFits s n) (eh : high ≡ part_of s.row s.h s.rows) (ew : wide ≡ part_of s.col s.w s.cols) (some : wide ≡ 0 → ⊥) (hi : i < high) where
  -- a row of the rectangle lies in a list as long as the lent one
  pub row_inside : {m : ℕ} → m ≡ n → (s.row + i) * s.cols + s.col + wide ≤ m
  row_inside e =
      let h : s.row + i < s.rows = omega arith in
      let w : s.col + wide ≤ s.cols = omega arith in
      omega (arith, mul-le-mul_right s.cols h, suc-mul (s.row + i) s.cols, fit.long)

  pub first_fits : Fits w64 (s.row + i)
  first_fits = record { fits = omega (arith, fit.rows_most) }

  pub line_fits : Fits w64 ((s.row + i) * s.cols)
  line_fits = row_fits (s.row + i) s.rows s.cols (omega arith) fit.rows_most fit.cols_most

  pub start_fits : Fits w64 ((s.row + i) * s.cols + s.col)
  start_fits = cell_fits (s.row + i) s.rows s.col s.cols (omega arith) (omega arith) fit.rows_most fit.cols_most

pub cut_done : {s : Keep} {high wide i : ℕ} (l : List ℕ) {m : List ℕ} → RectangleFits s (length l) → high ≡ part_of s.row s.h s.rows → wide ≡ part_of s.col s.w s.cols → m ≡ turns i (λ k. row_set ((s.row + k) * s.cols + s.col) wide) l → i ≤ high → high ≤ i → m ≡ kept_of s l
unfolding rows_set
cut_done {s} l fit eh ew e a b = turns_end _ l _ _ e a b ∙ rw (eh, ew) (rectangle_is s l fit.some fit.long)

pub cut_none : {s : Keep} {wide : ℕ} (l : List ℕ) → RectangleFits s (length l) → wide ≡ part_of s.col s.w s.cols → wide ≡ 0 → l ≡ kept_of s l
cut_none {s} l fit ew e = rectangle_none s l fit.some fit.long (sym ew ∙ e)

pub ruleset rectangles = (rules, turns_none, turns_more, row_inside, first_fits, line_fits, start_fits, cut_done, cut_none)
