-- Properties of a list's elements: of every one, of some one, of every pair; kept by `++` and by a loop. And how long its front is.
-- Assumes nothing.
use Rattle.std.specs.Prelude.{◌≡◌, ◌⊎◌, List, [], ◌∷◌, ◌++◌, map, length, take}
use Rattle.std.proofs.Common.{inl, inr, le_refl, not-suc-le-zero, arith, length-take}
use Prim.Native.Nat.{ℕ, zero, suc, ◌≤◌, ◌<◌}
use Rattle.std.proofs.Math.Nat.{le_step}
use Rattle.std.proofs.Math.Decide.{ℕ_discrete}
use Rattle.laws.specs.Loops.{each}

module _ {E : Type 0} where
  -- ---- every element

  abbrev pub Each : (E → Type 0) → List E → Type 0
  Each P [] = Unit {0}
  Each P (x ∷ xs) = P x × Each P xs

  pub each_map : (P Q : E → Type 0) → ((x : E) → P x → Q x) → (xs : List E) → Each P xs → Each Q xs
  each_map P Q f [] h = tt
  each_map P Q f (x ∷ xs) h = (f x h.0, each_map P Q f xs h.1)

  -- two properties together
  pub each_both : (P Q R : E → Type 0) → ((x : E) → P x → Q x → R x) → (xs : List E) → Each P xs → Each Q xs → Each R xs
  each_both P Q R f [] h k = tt
  each_both P Q R f (x ∷ xs) h k = (f x h.0 k.0, each_both P Q R f xs h.1 k.1)

  pub each_append : (P : E → Type 0) (xs ys : List E) → Each P xs → Each P ys → Each P (xs ++ ys)
  each_append P [] ys h k = k
  each_append P (x ∷ xs) ys h k = (h.0, each_append P xs ys h.1 k)

  pub each_left : (P : E → Type 0) (xs ys : List E) → Each P (xs ++ ys) → Each P xs
  each_left P [] ys h = tt
  each_left P (x ∷ xs) ys h = (h.0, each_left P xs ys h.1)

  pub each_right : (P : E → Type 0) (xs ys : List E) → Each P (xs ++ ys) → Each P ys
  each_right P [] ys h = h
  each_right P (x ∷ xs) ys h = each_right P xs ys h.1

  pub each_loop : (P : E → Type 0) (n : ℕ) (f : ℕ → List E) → ((k : ℕ) → k < n → Each P (f k)) → Each P (each n f)
  unfolding each
  each_loop P zero f h = tt
  each_loop P (suc n) f h = each_append P (each n f) (f n) (each_loop P n f (λ k l. h k (le_step l))) (h n (le_refl (suc n)))

  -- ---- some element

  abbrev pub Some : (E → Type 0) → List E → Type 0
  Some P [] = ⊥
  Some P (x ∷ xs) = P x ⊎ Some P xs

  pub some_left : (P : E → Type 0) (xs ys : List E) → Some P xs → Some P (xs ++ ys)
  some_left P [] ys h = absurd h
  some_left P (x ∷ xs) ys (inl h) = inl h
  some_left P (x ∷ xs) ys (inr h) = inr (some_left P xs ys h)

  pub some_right : (P : E → Type 0) (xs ys : List E) → Some P ys → Some P (xs ++ ys)
  some_right P [] ys h = h
  some_right P (x ∷ xs) ys h = inr (some_right P xs ys h)

  pub some_loop : (P : E → Type 0) (n : ℕ) (f : ℕ → List E) (i : ℕ) → i < n → Some P (f i) → Some P (each n f)
  unfolding each
  some_loop P zero f i h k = absurd (not-suc-le-zero h)
  some_loop P (suc n) f i h k =
      elim (ℕ_discrete i n) [
        | yes q ↦ some_right P (each n f) (f n) (rw q at k)
        | no q ↦ some_left P (each n f) (f n) (some_loop P n f i (omega arith) k)
      ]

  -- ---- every pair of two lists

  abbrev pub Pairs : (E → E → Type 0) → List E → List E → Type 0
  Pairs R xs ys = Each (λ x. Each (R x) ys) xs

  -- two properties that make a pair related
  pub pairs_by : (R : E → E → Type 0) (P Q : E → Type 0) → ((x y : E) → P x → Q y → R x y) → (xs ys : List E) → Each P xs → Each Q ys → Pairs R xs ys
  pairs_by R P Q f xs ys h k = each_map P (λ x. Each (R x) ys) (λ x p. each_map Q (R x) (λ y q. f x y p q) ys k) xs h

  pub pairs_nil : (R : E → E → Type 0) (xs : List E) → Pairs R xs []
  pairs_nil R [] = tt
  pairs_nil R (x ∷ xs) = (tt, pairs_nil R xs)

  pub pairs_append : (R : E → E → Type 0) (xs ys zs : List E) → Pairs R xs ys → Pairs R xs zs → Pairs R xs (ys ++ zs)
  pairs_append R [] ys zs h k = tt
  pairs_append R (x ∷ xs) ys zs h k = (each_append (R x) ys zs h.0 k.0, pairs_append R xs ys zs h.1 k.1)

  pub pairs_loop_right : (R : E → E → Type 0) (xs : List E) (n : ℕ) (f : ℕ → List E) → ((k : ℕ) → k < n → Pairs R xs (f k)) → Pairs R xs (each n f)
  unfolding each
  pairs_loop_right R xs zero f h = pairs_nil R xs
  pairs_loop_right R xs (suc n) f h = pairs_append R xs (each n f) (f n) (pairs_loop_right R xs n f (λ k l. h k (le_step l))) (h n (le_refl (suc n)))

  -- the same pairs, the second list first
  pairs_column : (R : E → E → Type 0) (x : E) (ys xs : List E) → Pairs R ys (x ∷ xs) → Each (λ y. R y x) ys
  pairs_column R x [] xs h = tt
  pairs_column R x (y ∷ ys) xs h = (h.0.0, pairs_column R x ys xs h.1)

  pairs_rest : (R : E → E → Type 0) (x : E) (ys xs : List E) → Pairs R ys (x ∷ xs) → Pairs R ys xs
  pairs_rest R x [] xs h = tt
  pairs_rest R x (y ∷ ys) xs h = (h.0.1, pairs_rest R x ys xs h.1)

  pub pairs_turn : (R S : E → E → Type 0) → ((x y : E) → R x y → S y x) → (ys xs : List E) → Pairs R ys xs → Pairs S xs ys
  pairs_turn R S turn ys [] h = tt
  pairs_turn R S turn ys (x ∷ xs) h =
      (each_map (λ y. R y x) (S x) (λ y r. turn y x r) ys (pairs_column R x ys xs h), pairs_turn R S turn ys xs (pairs_rest R x ys xs h))

  -- ---- every element of one list and each later one

  abbrev pub AllPairs : (E → E → Type 0) → List E → Type 0
  AllPairs R [] = Unit {0}
  AllPairs R (x ∷ xs) = Each (R x) xs × AllPairs R xs

  pub all_pairs_map : (R S : E → E → Type 0) → ((x y : E) → R x y → S x y) → (xs : List E) → AllPairs R xs → AllPairs S xs
  all_pairs_map R S f [] h = tt
  all_pairs_map R S f (x ∷ xs) h = (each_map (R x) (S x) (f x) xs h.0, all_pairs_map R S f xs h.1)

  pub all_pairs_both : (P : E → E → Type 0) (Q : E → Type 0) (R : E → E → Type 0) → ((x y : E) → Q x → Q y → P x y → R x y)
      → (xs : List E) → AllPairs P xs → Each Q xs → AllPairs R xs
  all_pairs_both P Q R f [] h k = tt
  all_pairs_both P Q R f (x ∷ xs) h k =
      (each_both (P x) Q (R x) (λ y p q. f x y k.0 q p) xs h.0 k.1, all_pairs_both P Q R f xs h.1 k.1)

  pub all_pairs_append : (R : E → E → Type 0) (xs ys : List E) → AllPairs R xs → AllPairs R ys → Pairs R xs ys → AllPairs R (xs ++ ys)
  all_pairs_append R [] ys h k p = k
  all_pairs_append R (x ∷ xs) ys h k p = (each_append (R x) xs ys h.0 p.0, all_pairs_append R xs ys h.1 k p.1)

-- a property of what a map makes
pub each_of_map : {A B : Type 0} (P : B → Type 0) (f : A → B) (xs : List A) → Each (λ x. P (f x)) xs → Each P (map f xs)
each_of_map P f [] h = tt
each_of_map P f (x ∷ xs) h = (h.0, each_of_map P f xs h.1)

-- the front of a list that is long enough is as long as was asked
pub front : {A : Type 0} (n : ℕ) (xs : List A) → n ≤ length xs → n ≡ length (take n xs)
front n xs h = omega (arith, length-take n xs)
