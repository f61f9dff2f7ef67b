-- Sums of n numbers, and how long the list of a loop is.
-- Assumes nothing.
use Rattle.std.specs.Prelude.{◌≡◌, List}
use Rattle.std.proofs.Math.Path.{refl, ap}
use Rattle.std.proofs.Common.{sym, ap₂, ◌∙◌, le_refl, mul-add, arith}
use Prim.Native.Nat.{ℕ, zero, suc, ◌+◌, ◌*◌, ◌-◌, ◌≤◌, ◌<◌}
use Rattle.std.proofs.Math.Nat.{le_step}
use Rattle.std.proofs.Math.ListN.{length, length-append}
use Rattle.laws.specs.Loops.{each}

-- f 0 + f 1 + .. + f (n - 1)
unfoldable pub sum : ℕ → (ℕ → ℕ) → ℕ
sum zero f = 0
sum (suc n) f = sum n f + f n

pub sum_same : (f h : ℕ → ℕ) (n : ℕ) → ((k : ℕ) → k < n → f k ≡ h k) → sum n f ≡ sum n h
unfolding sum
sum_same f h zero e = refl
sum_same f h (suc n) e = ap₂ (λ (a b : ℕ). a + b) (sum_same f h n (λ k l. e k (le_step l))) (e n (le_refl (suc n)))

pub sum_add : (f h : ℕ → ℕ) (n : ℕ) → sum n (λ k. f k + h k) ≡ sum n f + sum n h
unfolding sum
sum_add f h zero = omega arith
sum_add f h (suc n) = omega (arith, sum_add f h n)

pub sum_zero : (n : ℕ) → sum n (λ k. 0) ≡ 0
unfolding sum
sum_zero zero = refl
sum_zero (suc n) = omega (arith, sum_zero n)

-- a table's sum, rows first or columns first
pub sum_swap : (f : ℕ → ℕ → ℕ) (n m : ℕ) → sum n (λ i. sum m (λ j. f i j)) ≡ sum m (λ j. sum n (λ i. f i j))
unfolding sum
sum_swap f zero m = sym (sum_zero m)
sum_swap f (suc n) m = ap (λ (k : ℕ). k + sum m (λ j. f n j)) (sum_swap f n m) ∙ sym (sum_add (λ j. sum n (λ i. f i j)) (λ j. f n j) m)

-- n times one fewer than m
pub one_fewer : (n m : ℕ) → 1 ≤ m → n * (m - 1) + n ≡ n * m
one_fewer n m h =
    let e : m - 1 + 1 ≡ m = omega arith in
    let f = ap (λ (k : ℕ). n * k) e in
    omega (arith, mul-add n (m - 1) 1)

-- ---- how long the list of a loop is

module _ {E : Type 0} where
  pub length_each : (f : ℕ → List E) (n : ℕ) → length (each n f) ≡ sum n (λ k. length (f k))
  unfolding each sum
  length_each f zero = refl
  length_each f (suc n) = length-append (each n f) (f n) ∙ ap (λ (k : ℕ). k + length (f n)) (length_each f n)
