-- The table that a plane makes once: each of its numbers as the code finds it, and the list filled with them.
-- Assumes nothing.
use mathlib.Core.Path.{◌≡◌, refl, ap, ◌∙◌}
use mathlib.Core.Bool.{Bool, true, false}
use mathlib.Core.List.{List}
use Prim.Native.Nat.{ℕ, ◌-◌, ◌≤◌, ◌<◌}
use native.Mathlib.Omega.{arith}
use borrow.Author.Rules.{rules}
use lib.Dec.{ltb}
use lib.ListN.{length, get_or}
use Rattle.laws.specs.Choose.{pick_yes, pick_no, told_yes, told_no, is_lt, not_lt}
use Rattle.laws.specs.Loops.{filled, filled_at}
use Rattle.rules.specs.Plane.{starts_tile}
use Rattle.plane.specs.Run.{table_at, IsTable}

module _ (levels ts : List ℕ) (k : ℕ) where
  pub table_low : {n : ℕ} → k < 1416 → n ≡ get_or levels k 0 → n ≡ table_at levels ts k
  unfolding table_at
  table_low h e = pick_yes (ltb k 1416) _ _ _ (is_lt k 1416 h) e

  pub table_start : {u : Bool} → 1416 ≤ k → u ≡ starts_tile ts (length ts) (k - 1416) → u ≡ true → 1 ≡ table_at levels ts k
  unfolding table_at
  table_start {u} h is e = pick_no (ltb k 1416) _ _ _ (not_lt k 1416 h) (pick_yes _ _ _ _ (told_yes _ u is e) refl)

  pub table_none : {u : Bool} → 1416 ≤ k → u ≡ starts_tile ts (length ts) (k - 1416) → u ≡ false → 0 ≡ table_at levels ts k
  unfolding table_at
  table_none {u} h is e = pick_no (ltb k 1416) _ _ _ (not_lt k 1416 h) (pick_no _ _ _ _ (told_no _ u is e) refl)

pub table_is : (levels ts start : List ℕ) (n : ℕ) {table : List ℕ} → length start ≡ 2440 → n ≡ 2440 → table ≡ filled start (table_at levels ts) n → IsTable levels ts table
table_is levels ts start n long full e = record { at = λ k h. ap (λ (l : List ℕ). get_or l k 0) e ∙ filled_at start (table_at levels ts) 0 n k (omega arith) (omega arith) }

pub ruleset tables = (rules, table_low, table_start, table_none)
