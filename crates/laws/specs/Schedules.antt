-- Nested loops in another order: one loop of two parts as two loops, loops that change places, a part that waits a round, and a
-- table of rows and columns walked in groups of columns, in bands of rows, or whole. Assumes nothing.
use Rattle.std.specs.Prelude.{◌≡◌, eqb}
use Rattle.std.proofs.Math.Path.{refl, ap}
use Rattle.std.proofs.Common.{le_refl, le_trans, ne_eqb}
use mathlib.Core.List.{List, [], ◌++◌}
use Prim.Native.Nat.{ℕ, zero, suc, ◌+◌, ◌-◌, ◌*◌, ◌≤◌, ◌<◌, min}
use Rattle.std.proofs.Math.Decide.{dec_le}
use native.Mathlib.Omega.{arith}
use Rattle.laws.specs.Choose.{pick}
use Rattle.laws.specs.Loops.{each}

-- what the round before this one left to do
module _ {E : Type 0} where
  abbrev pub prev : (ℕ → List E) → ℕ → List E
  prev g zero = []
  prev g (suc k) = g k

  pub each_prev : (g : ℕ → List E) (n : ℕ) → each n (prev g) ++ prev g n ≡ each n g
  unfolding each
  each_prev g zero = refl
  each_prev g (suc n) = ap (λ (l : List E). l ++ g n) (each_prev g n)

  -- as code has it
  pub prev_pick : (g : ℕ → List E) (k : ℕ) → pick (eqb k 0) [] (g (k - 1)) ≡ prev g k
  unfolding pick
  prev_pick g zero = refl
  prev_pick g (suc k) = rw (ne_eqb (suc k) 0 (λ e. omega arith)) (ap g (let e : suc k - 1 ≡ k = omega arith in e))

  pub prev_last : (g : ℕ → List E) (n : ℕ) → 0 < n → g (n - 1) ≡ prev g n
  prev_last g zero h = absurd (omega arith)
  prev_last g (suc n) h = ap g (let e : suc n - 1 ≡ n = omega arith in e)

-- ---- a table of rows by columns, with a list f r c and a list g r c for each cell

module _ {E : Type 0} (f g : ℕ → ℕ → List E) (rows cols : ℕ) where
  -- every f, rows outer, then every g, columns outer
  abbrev pub by_rows : List E
  by_rows = each rows (λ r. each cols (λ c. f r c))

  abbrev pub by_columns : List E
  by_columns = each cols (λ c. each rows (λ r. g r c))

  abbrev pub plain : List E
  plain = by_rows ++ by_columns

-- in groups of w columns, the last of which may be narrower: each group's f, then the group before's g
module _ {E : Type 0} (f g : ℕ → ℕ → List E) (rows cols w : ℕ) where
  abbrev pub width_of : ℕ → ℕ
  width_of k = min w (cols - k * w)

  abbrev pub group_f : ℕ → List E
  group_f k = each rows (λ r. each (width_of k) (λ i. f r (k * w + i)))

  abbrev pub group_g : ℕ → List E
  group_g k = each (width_of k) (λ i. each rows (λ r. g r (k * w + i)))

  abbrev pub grouped : ℕ → List E
  grouped n = each n (λ k. group_f k ++ prev group_g k) ++ prev group_g n

-- rising places rise over any distance
pub rises : (a : ℕ → ℕ) (n : ℕ) → ((k : ℕ) → k < n → a k ≤ a (suc k)) → (i j : ℕ) → i ≤ j → j ≤ n → a i ≤ a j
rises a n up i zero h k = let e : i ≡ 0 = omega arith in rw e (le_refl (a 0))
rises a n up i (suc j) h k = elim (dec_le i j) [
  | yes l ↦ le_trans (rises a n up i j l (omega arith)) (up j k)
  | no l ↦ same_place (omega arith)
]
  where
    same_place : i ≡ suc j → a i ≤ a (suc j)
    same_place e = rw e (le_refl (a (suc j)))

-- in bands of rows: band k does f in rows a k up to a (k + 1), then g in rows b k up to b (k + 1), columns outer
module _ {E : Type 0} (f g : ℕ → ℕ → List E) (cols : ℕ) (a b : ℕ → ℕ) where
  abbrev pub band_f : ℕ → List E
  band_f k = each (a (suc k) - a k) (λ i. each cols (λ c. f (a k + i) c))

  abbrev pub band_g : ℕ → List E
  band_g k = each cols (λ c. each (b (suc k) - b k) (λ i. g (b k + i) c))

  abbrev pub banded : ℕ → List E
  banded n = each n (λ k. band_f k ++ band_g k)
