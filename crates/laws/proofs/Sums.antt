-- How long the list of a table is, and the list of turns of one element at most.
-- Assumes nothing.
use Rattle.std.specs.Prelude.{◌≡◌, List}
use Rattle.std.proofs.Common.{◌∙◌, arith}
use Prim.Native.Nat.{ℕ, zero, suc, ◌-◌, ◌≤◌}
use Rattle.std.proofs.Math.ListN.{length, length-append}
use Rattle.laws.specs.Loops.{each}
use Rattle.laws.specs.Sums.{sum, sum_same, length_each}

module _ {E : Type 0} where
  -- a table of lists
  pub length_table : (f : ℕ → ℕ → List E) (h : ℕ → ℕ → ℕ) (n m : ℕ) → ((i j : ℕ) → length (f i j) ≡ h i j) → length (each n (λ i. each m (λ j. f i j))) ≡ sum n (λ i. sum m (λ j. h i j))
  length_table f h n m e =
      length_each (λ i. each m (λ j. f i j)) n
      ∙ sum_same (λ i. length (each m (λ j. f i j))) (λ i. sum m (λ j. h i j)) n
      (λ i l. length_each (λ j. f i j) m ∙ sum_same (λ j. length (f i j)) (λ j. h i j) m (λ j k. e i j))

  -- turns of one element at most, and none in the first
  module _ (f : ℕ → List E) (none : length (f 0) ≡ 0) (one : (k : ℕ) → length (f k) ≤ 1) where
    each_but_first : (n : ℕ) → length (each (suc n) f) ≤ n
    unfolding each
    each_but_first zero = omega (arith, length-append (each 0 f) (f 0))
    each_but_first (suc n) = omega (arith, length-append (each (suc n) f) (f (suc n)), each_but_first n, one (suc n))

    pub length_but_first : (n : ℕ) → 1 ≤ n → length (each n f) ≤ n - 1
    length_but_first zero h = absurd (omega arith)
    length_but_first (suc n) h = omega (arith, each_but_first n)
