-- The pairs of samples that differ, counted from the front of two lists. Assumes nothing.
use mathlib.Core.Path.{◌≡◌, refl, sym, ap, ◌∙◌}
use mathlib.Core.Bool.{Bool, true, false, not}
use mathlib.Core.List.{List, [], ◌∷◌}
use Prim.Native.Nat.{ℕ, zero, suc, ◌+◌, min}
use native.Mathlib.Omega.{arith}
use lib.Dec.{eqb}
use lib.ListN.{length, take}
use Rattle.std.specs.List.{filter, zip}
use Rattle.laws.specs.Choose.{pick}
use Rattle.pictures.specs.Changes.{differs_of, differing_of}

-- a pair more at the front
front_more : (x y : ℕ) (xs ys : List ℕ) (n : ℕ) → differing_of (x ∷ xs) (y ∷ ys) (suc n) ≡ differs_of x y + differing_of xs ys n
unfolding differing_of
front_more x y xs ys zero = omega arith
front_more x y xs ys (suc n) = omega (arith, front_more x y xs ys n)

counted_more : (x y : ℕ) (rest : List (ℕ × ℕ)) (m : ℕ) → length (filter (λ (p : ℕ × ℕ). not (eqb p.0 p.1)) rest) ≡ m
    → length (filter (λ (p : ℕ × ℕ). not (eqb p.0 p.1)) ((x, y) ∷ rest)) ≡ differs_of x y + m
unfolding differs_of pick
counted_more x y rest m e = by_test (eqb x y) refl
  where
    none : 0 + m ≡ m
    none = omega arith

    one : 1 + m ≡ suc m
    one = omega arith

    by_test : (t : Bool) → eqb x y ≡ t → length (filter (λ (p : ℕ × ℕ). not (eqb p.0 p.1)) ((x, y) ∷ rest)) ≡ pick (eqb x y) 0 1 + m
    by_test true g = rw g (e ∙ sym none)
    by_test false g = rw g (ap suc e ∙ sym one)

pairs : (a b : List ℕ) (n : ℕ) → length (filter (λ (p : ℕ × ℕ). not (eqb p.0 p.1)) (take n (zip a b))) ≡ differing_of a b (min n (min (length a) (length b)))
unfolding differing_of
pairs [] b zero = let z : min 0 (min 0 (length b)) ≡ 0 = omega arith in rw z refl
pairs [] b (suc n) = let z : min (suc n) (min 0 (length b)) ≡ 0 = omega arith in rw z refl
pairs (x ∷ xs) [] zero = let z : min 0 (min (suc (length xs)) 0) ≡ 0 = omega arith in rw z refl
pairs (x ∷ xs) [] (suc n) = let z : min (suc n) (min (suc (length xs)) 0) ≡ 0 = omega arith in rw z refl
pairs (x ∷ xs) (y ∷ ys) zero = let z : min 0 (min (suc (length xs)) (suc (length ys))) ≡ 0 = omega arith in rw z refl
pairs (x ∷ xs) (y ∷ ys) (suc n) =
    let m : min (suc n) (min (suc (length xs)) (suc (length ys))) ≡ suc (min n (min (length xs) (length ys))) = omega arith in
    counted_more x y (take n (zip xs ys)) _ (pairs xs ys n)
    ∙ sym (front_more x y xs ys (min n (min (length xs) (length ys))))
    ∙ ap (differing_of (x ∷ xs) (y ∷ ys)) (sym m)

-- as a chain counts them
pub counted : (a b : List ℕ) (n : ℕ) {r : ℕ} → r ≡ length (filter (λ (p : ℕ × ℕ). not (eqb p.0 p.1)) (take n (zip a b))) → r ≡ differing_of a b (min n (min (length a) (length b)))
counted a b n e = e ∙ pairs a b n
