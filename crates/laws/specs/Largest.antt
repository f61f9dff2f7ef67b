-- The largest of a stretch of a list, and what a loop that looks for it keeps. Assumes nothing.
use Rattle.std.specs.Prelude.{◌≡◌, List, get_or}
use Rattle.std.proofs.Math.Path.{refl, ap}
use Rattle.std.proofs.Common.{sym, ◌∙◌, le_antisymm, not-suc-le-zero, add-one}
use Prim.Native.Nat.{ℕ, zero, suc, ◌+◌, ◌≤◌, ◌<◌, max}
use Rattle.std.proofs.Math.Decide.{ℕ_discrete}
use native.Mathlib.Omega.{arith}

-- the largest of n numbers from start on, 0 for none
unfoldable pub largest : List ℕ → ℕ → ℕ → ℕ
largest xs start zero = 0
largest xs start (suc n) = max (largest xs start n) (get_or xs (start + n) 0)

module _ (xs : List ℕ) (start : ℕ) where
  pub largest_none : 0 ≡ largest xs start 0
  unfolding largest
  largest_none = refl

  pub largest_more : (n : ℕ) {m r : ℕ} → m ≡ largest xs start n → r ≡ max m (get_or xs (start + n) 0) → r ≡ largest xs start (n + 1)
  unfolding largest
  largest_more n e f = f ∙ ap (λ (k : ℕ). max k (get_or xs (start + n) 0)) e ∙ ap (λ (k : ℕ). largest xs start k) (sym (add-one n))

  pub largest_end : (k n : ℕ) {m : ℕ} → m ≡ largest xs start k → k ≤ n → n ≤ k → m ≡ largest xs start n
  largest_end k n e a b = rw (le_antisymm a b) at e

  -- no number of the stretch is over it
  pub under_largest : (n k : ℕ) → k < n → get_or xs (start + k) 0 ≤ largest xs start n
  unfolding largest
  under_largest zero k h = absurd (not-suc-le-zero h)
  under_largest (suc n) k h =
      elim (ℕ_discrete k n) [
        | yes q ↦ rw q (omega arith)
        | no q ↦ let l = under_largest n k (omega arith) in omega arith
      ]
