-- Whether a column is in a list of tile starts.
-- Assumes nothing.
use mathlib.Core.Path.{◌≡◌, refl, sym, ap, ◌∙◌}
use mathlib.Core.Logic.{⊎_elim}
use mathlib.Core.Bool.{true, false}
use mathlib.Core.List.{List}
use Prim.Native.Nat.{ℕ, zero, suc, ◌+◌, ◌≤◌, ◌<◌}
use native.Mathlib.Nat.{eq-or-lt_of_le, le_of_suc-le-suc, not-suc-le-zero, le_antisymm}
use native.Mathlib.Numerals.{add-one}
use borrow.Author.Rules.{rules}
use borrow.Author.Tests.{ne_eqb}
use lib.Dec.{eqb}
use lib.ListN.{get_or}
use Rattle.laws.specs.Choose.{either, either_first, either_later, either_second, is_eq}
use Rattle.rules.specs.Plane.{starts_tile}

module _ (ts : List ℕ) (c : ℕ) where
  pub starts_none : starts_tile ts 0 c ≡ false
  unfolding starts_tile
  starts_none = refl

  -- one start more
  pub starts_next : (k : ℕ) → starts_tile ts (k + 1) c ≡ either (starts_tile ts k c) (eqb (get_or ts k 0) c)
  unfolding starts_tile
  starts_next k = ap (λ (n : ℕ). starts_tile ts n c) (add-one k)

  -- a start n that the code has read, which is the column or not
  pub starts_more : (k : ℕ) {n : ℕ} → starts_tile ts k c ≡ false → n ≡ get_or ts k 0 → (n ≡ c → ⊥) → starts_tile ts (k + 1) c ≡ false
  starts_more k before read other = starts_next k ∙ sym (either_second _ _ false (sym before) (sym (ne_eqb _ _ (λ q. other (read ∙ q)))))

  starts_found : (k n : ℕ) → get_or ts k 0 ≡ c → k < n → true ≡ starts_tile ts n c
  unfolding starts_tile
  starts_found k zero e h = absurd (not-suc-le-zero h)
  starts_found k (suc n) e h =
      ⊎_elim
      (λ q. either_later (starts_tile ts n c) (eqb (get_or ts n 0) c) (is_eq (get_or ts n 0) c (ap (λ (j : ℕ). get_or ts j 0) (sym q) ∙ e)))
      (λ lt. either_first (starts_tile ts n c) (eqb (get_or ts n 0) c) (starts_found k n e lt))
      (eq-or-lt_of_le (le_of_suc-le-suc h))

  pub starts_by : (k m : ℕ) {n : ℕ} → n ≡ get_or ts k 0 → n ≡ c → k < m → true ≡ starts_tile ts m c
  starts_by k m read e h = starts_found k m (sym read ∙ e) h

  pub starts_end : (k n : ℕ) → starts_tile ts k c ≡ false → k ≤ n → n ≤ k → false ≡ starts_tile ts n c
  starts_end k n e a b = sym e ∙ ap (λ (m : ℕ). starts_tile ts m c) (le_antisymm a b)

pub ruleset starting = (rules, starts_none, starts_more, starts_by, starts_end)
