-- Samples copied: from another list to the front, or from further on in the same one. Assumes nothing.
use mathlib.Core.Path.{◌≡◌, sym, ap, ◌∙◌}
use mathlib.Core.List.{List, ◌++◌}
use Prim.Native.Nat.{ℕ, ◌+◌, ◌-◌, ◌≤◌, min}
use native.Mathlib.Decide.{dec_le}
use native.Mathlib.Omega.{arith}
use lib.Seq.{paste}
use lib.ListN.{length, take, drop, length-take, length-drop}
use Rattle.std.specs.List.{copy_within}
use Rattle.pictures.specs.Storing.{stored}
use Rattle.pictures.proofs.Parts.{part_stored}
use Rattle.pictures.proofs.Storing.{copy_all, copy_full, stored_fits}

-- as much of another list as both hold
pub copied : (l s : List ℕ) (n : ℕ) {ys : List ℕ} → n ≡ min (length s) (length l) → ys ≡ take n s → ys ++ drop n l ≡ stored l 0 s
copied l s n {ys} m e =
    elim (dec_le (length s) n) [
      | yes h ↦ copy_all l s n h front
      | no h ↦ copy_full l s n (omega arith) (omega arith) front
    ]
  where
    front : ys ++ drop n l ≡ stored l 0 (take n s)
    front =
        ap (λ (x : List ℕ). x ++ drop n l) e
        ∙ part_stored 0 n l (take n s) (omega arith) (omega (arith, length-take n s))

-- n samples that stand further on
pub moved : (l : List ℕ) (from to n : ℕ) {q : List ℕ} → from + n ≤ length l → to + n ≤ length l → q ≡ copy_within l from (from + n) to → q ≡ stored l to (take n (drop from l))
moved l from to n a b e =
    e
    ∙ ap (λ (m : ℕ). copied_over m) long
    ∙ ap (λ (m : ℕ). take to l ++ take n (drop from l) ++ drop (to + m) l) (sym (piece a))
    ∙ sym (stored_fits l to (take n (drop from l)) (omega (arith, piece a)))
  where
    copied_over : ℕ → List ℕ
    copied_over m = paste l to (drop from l) m

    long : from + n - from ≡ n
    long = omega arith

    piece : from + n ≤ length l → length (take n (drop from l)) ≡ n
    piece a = omega (arith, length-take n (drop from l), length-drop from l)
