-- A part of a list, lent and filled, as the list that is stored there. Assumes nothing.
use mathlib.Core.Path.{◌≡◌, refl, sym, ap, ◌∙◌}
use mathlib.Core.Bool.{Bool}
use mathlib.Core.List.{List, [], ◌∷◌, ◌++◌, append-nil, append_assoc}
use Prim.Native.Nat.{ℕ, ◌+◌, ◌-◌, ◌≤◌, ◌<◌}
use native.Mathlib.Omega.{arith}
use borrow.Rule.Slice.PartMut.{mid_of, put_mid}
use lib.ListN.{length, take, drop, length-take, length-drop}
use lib.Seq.{drop-drop, drop-length}
use Rattle.laws.specs.Choose.{pick_yes, pick_no, is_le, not_le}
use Rattle.laws.specs.Loops.{each, filled, singles_length}
use Rattle.y4m.specs.Rows.{padded_at, byte_of}
use Rattle.pictures.specs.declared.planes.Shape.{Shape}
use Rattle.pictures.specs.Storing.{stored}
use Rattle.pictures.specs.Rows.{padded_row, row_put, row_out}
use Rattle.pictures.proofs.Storing.{stored_fits, filled_stored}

-- k places from a on
pub part_stored : {A : Type 0} (a k : ℕ) (l ys : List A) → a + k ≤ length l → length ys ≡ k → put_mid a k l ys ≡ stored l a ys
part_stored {A} a k l ys h n =
    sym (append_assoc (take a l) ys (drop k (drop a l)))
    ∙ ap (λ (x : List A). (take a l ++ ys) ++ x) (drop-drop k a l ∙ ap (λ (m : ℕ). drop (a + m) l) (sym n))
    ∙ sym (stored_fits l a ys (omega arith))

module _ {A : Type 0} (f : ℕ → A) where
  -- a list filled to its end
  pub all_filled : (l : List A) (n : ℕ) → length l ≡ n → filled l f (length l) ≡ each n (λ i. f i ∷ [])
  all_filled l n h =
      filled_stored l f (length l)
      ∙ ap (λ (m : ℕ). stored l 0 (each m (λ i. f i ∷ []))) h
      ∙ stored_fits l 0 (each n (λ i. f i ∷ [])) (omega (arith, singles_length f n))
      ∙ ap (λ (m : ℕ). each n (λ i. f i ∷ []) ++ drop m l) (last (singles_length f n))
      ∙ ap (λ (x : List A). each n (λ i. f i ∷ []) ++ x) (drop-length l)
      ∙ append-nil (each n (λ i. f i ∷ []))
    where
      last : length (each n (λ i. f i ∷ [])) ≡ n → 0 + length (each n (λ i. f i ∷ [])) ≡ length l
      last e = omega arith

  -- k places from a on
  pub part_filled : (a k : ℕ) (l : List A) {ys : List A} → a + k ≤ length l → ys ≡ filled (mid_of a k l) f (length (mid_of a k l))
      → put_mid a k l ys ≡ stored l a (each k (λ i. f i ∷ []))
  part_filled a k l h e =
      ap (λ (x : List A). put_mid a k l x) (e ∙ all_filled (mid_of a k l) k (omega (arith, length-take k (drop a l), length-drop a l)))
      ∙ part_stored a k l (each k (λ i. f i ∷ [])) h (singles_length f k)

  -- the first n places
  pub front_filled : (n : ℕ) (l : List A) {ys : List A} → n ≤ length l → ys ≡ filled (take n l) f (length (take n l))
      → ys ++ drop n l ≡ stored l 0 (each n (λ i. f i ∷ []))
  front_filled n l h e = part_filled 0 n l (omega arith) e

-- ---- rows

pub row_put_holds : (wide : Bool) (s : Shape) (bytes plane : List ℕ) (at : ℕ) {ys : List ℕ} → at + s.stride ≤ length plane
    → ys ≡ filled (mid_of at (at + s.stride - at) plane) (λ i. padded_at wide s.width bytes i) (length (mid_of at (at + s.stride - at) plane))
    → put_mid at (at + s.stride - at) plane ys ≡ row_put wide s bytes at plane
unfolding row_put padded_row
row_put_holds wide s bytes plane at h e =
    pick_yes _ _ _ _ (is_le (at + s.stride) (length plane) h)
    (part_filled (λ i. padded_at wide s.width bytes i) at (at + s.stride - at) plane (omega arith) e
    ∙ ap (λ (m : ℕ). stored plane at (each m (λ i. padded_at wide s.width bytes i ∷ []))) long)
  where
    long : at + s.stride - at ≡ s.stride
    long = omega arith

pub row_too_long : (wide : Bool) (s : Shape) (bytes plane : List ℕ) (at : ℕ) → length plane < at + s.stride → plane ≡ row_put wide s bytes at plane
unfolding row_put
row_too_long wide s bytes plane at h = pick_no _ _ _ _ (not_le (at + s.stride) (length plane) h) refl

pub row_out_holds : (wide : Bool) (row bytes : List ℕ) (n : ℕ) {ys : List ℕ} → n ≤ length bytes → ys ≡ filled (take n bytes) (λ i. byte_of wide row i) (length (take n bytes))
    → ys ++ drop n bytes ≡ row_out wide row n bytes
unfolding row_out
row_out_holds wide row bytes n h e = front_filled (λ i. byte_of wide row i) n bytes h e
