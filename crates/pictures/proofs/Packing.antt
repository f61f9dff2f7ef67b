-- A plane packed row by row, within itself: what was not yet moved is as it was, and rows that it does not hold come last.
-- Assumes nothing.
use mathlib.Core.Path.{◌≡◌, refl, sym, ap, ap₂, ◌∙◌}
use mathlib.Core.List.{List, [], ◌++◌, append-nil}
use Prim.Native.Nat.{ℕ, ◌+◌, ◌-◌, ◌*◌, ◌≤◌, ◌<◌}
use native.Mathlib.Nat.{mul-le-mul_left, mul-le-mul_right, le-add_right}
use native.Mathlib.Omega.{arith}
use borrow.Author.Rules.{rules}
use lib.ListN.{length, take, drop, length-take, length-drop}
use Rattle.laws.specs.Choose.{pick_yes, pick_no, is_le, not_le}
use Rattle.laws.specs.Loops.{each, each_add, each_same, each_empty}
use Rattle.pictures.specs.declared.planes.Shape.{Shape}
use Rattle.pictures.specs.Shapes.{ShapeFits}
use Rattle.pictures.specs.Storing.{stored}
use Rattle.pictures.specs.Rows.{bare_row, packed}
use Rattle.pictures.proofs.Storing.{stored_rest, pieces_length, pieces_none, pieces_more, pieces_end}

module _ (s : Shape) (l : List ℕ) where
  -- the plane holds row k
  abbrev pub Holds : ℕ → Type 0
  Holds k = s.stride * k + s.width ≤ length l

  pub at_row : (from k n : ℕ) → from + s.width ≤ n → n ≡ length l → from ≡ s.stride * k → Holds k
  at_row from k n h e a = omega arith

  held : (k : ℕ) → Holds k → take s.width (drop (s.stride * k) l) ≡ bare_row s l k
  unfolding bare_row
  held k h = pick_yes _ _ _ _ (is_le (s.stride * k + s.width) (length l) h) refl

  not_held : (k : ℕ) → length l < s.stride * k + s.width → bare_row s l k ≡ []
  unfolding bare_row
  not_held k h = sym (pick_no _ _ _ _ (not_le (s.stride * k + s.width) (length l) h) refl)

  bare_length : (k : ℕ) → Holds k → length (bare_row s l k) ≡ s.width
  bare_length k h =
      ap length (sym (held k h)) ∙ omega (arith, length-take s.width (drop (s.stride * k) l), length-drop (s.stride * k) l)

  pub pack_more : (from to r : ℕ) {q q' : List ℕ} → ShapeFits s → from ≡ s.stride * r → to ≡ s.width * r → Holds r → ((k : ℕ) → k < r → Holds k)
      → q ≡ stored l 0 (each r (bare_row s l)) → q' ≡ stored q to (take s.width (drop from q)) → q' ≡ stored l 0 (each (r + 1) (bare_row s l))
  pack_more from to r {q} fit a b h before e g =
      pieces_more (bare_row s l) s.width l 0 r (λ k below. bare_length k (before k below)) e
      (g ∙ ap₂ (λ (i : ℕ) (x : List ℕ). stored q i x) place row)
    where
      place : to ≡ 0 + s.width * r
      place = omega arith

      front : 0 + length (each r (bare_row s l)) ≤ s.stride * r
      front =
          omega (arith, pieces_length (bare_row s l) s.width l 0 r (λ k below. bare_length k (before k below)), mul-le-mul_right r fit.wide)

      row : take s.width (drop from q) ≡ bare_row s l r
      row =
          ap₂ (λ (i : ℕ) (x : List ℕ). take s.width (drop i x)) a e
          ∙ ap (take s.width) (stored_rest (each r (bare_row s l)) l 0 (s.stride * r) front)
          ∙ held r h

  -- no row from one on that the plane does not hold
  pub pack_short : (from r : ℕ) {q : List ℕ} → length q < from + s.width → length q ≡ length l → from ≡ s.stride * r → r ≤ s.height → q ≡ stored l 0 (each r (bare_row s l)) → q ≡ packed s l
  unfolding packed
  pack_short from r {q} h n a b e = e ∙ ap (stored l 0) (sym rows)
    where
      whole : r ≤ s.height → s.height ≡ r + (s.height - r)
      whole b = omega arith

      gone : (k : ℕ) → bare_row s l (r + k) ≡ []
      gone k = not_held (r + k) (omega (arith, mul-le-mul_left s.stride (le-add_right r k)))

      rows : each s.height (bare_row s l) ≡ each r (bare_row s l)
      rows =
          ap (λ (n : ℕ). each n (bare_row s l)) (whole b)
          ∙ each_add (bare_row s l) r (s.height - r)
          ∙ ap (λ (x : List ℕ). each r (bare_row s l) ++ x)
          (each_same (λ k. bare_row s l (r + k)) (λ k. []) (s.height - r) (λ k below. gone k) ∙ each_empty (s.height - r))
          ∙ append-nil (each r (bare_row s l))

  pub pack_end : (r : ℕ) {q : List ℕ} → s.height ≤ r → r ≤ s.height → q ≡ stored l 0 (each r (bare_row s l)) → q ≡ packed s l
  unfolding packed
  pack_end r a b e = pieces_end (bare_row s l) 0 l 0 r s.height e b a

pub ruleset packing = (rules, pieces_none, pack_short, pack_end)
