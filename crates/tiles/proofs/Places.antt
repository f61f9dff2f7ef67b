-- The place of a cell in a list of rows: that it fits a machine word, lies within the list, and belongs to one cell alone.
-- Assumes nothing.
use mathlib.Core.Path.{◌≡◌, refl, sym, ap, ◌∙◌}
use mathlib.Core.Bool.{Bool, true, false}
use Prim.Native.Nat.{ℕ, suc, ◌+◌, ◌*◌, ◌^◌, ◌≤◌, ◌<◌}
use mir.Val.{Fits}
use mir.Syntax.{w64}
use native.Mathlib.Nat.{mul-le-mul_right, mul-le-mul, suc-mul, le_antisymm}
use native.Mathlib.Omega.{arith}
use borrow.Author.Tests.{ltb-true, ltb-false}
use lib.Dec.{ltb}

-- ---- a cell of rows by cols, at most 1024 each

pub place_below : (r rows c cols : ℕ) → r < rows → c < cols → r * cols + c < rows * cols
place_below r rows c cols hr hc = omega (arith, mul-le-mul_right cols hr, suc-mul r cols)

cells_most : (rows cols : ℕ) → rows ≤ 1024 → cols ≤ 1024 → rows * cols ≤ 1024 * 1024
cells_most rows cols a b = mul-le-mul a b

pub cells_fit : (rows cols : ℕ) → rows ≤ 1024 → cols ≤ 1024 → Fits w64 (rows * cols)
cells_fit rows cols a b = record { fits = omega (arith, cells_most rows cols a b) }

pub row_fits : (r rows cols : ℕ) → r < rows → rows ≤ 1024 → cols ≤ 1024 → Fits w64 (r * cols)
row_fits r rows cols h a b = cells_fit r cols (omega arith) b

pub cell_fits : (r rows c cols : ℕ) → r < rows → c < cols → rows ≤ 1024 → cols ≤ 1024 → Fits w64 (r * cols + c)
cell_fits r rows c cols hr hc a b = record { fits = omega (arith, place_below r rows c cols hr hc, cells_most rows cols a b) }

pub cell_in : (r rows c cols n : ℕ) → r < rows → c < cols → rows * cols ≤ n → r * cols + c < n
cell_in r rows c cols n hr hc l = omega (arith, place_below r rows c cols hr hc)

-- ---- two cells of one place are one cell

pub same_row : (r r' c c' cols : ℕ) → c < cols → c' < cols → r * cols + c ≡ r' * cols + c' → r ≡ r'
same_row r r' c c' cols a b e = go (ltb r r') (ltb r' r) refl refl
  where
    go : (p q : Bool) → ltb r r' ≡ p → ltb r' r ≡ q → r ≡ r'
    go true q f g = absurd (omega (arith, place_below r r' c cols (ltb-true _ _ f) a))
    go false true f g = absurd (omega (arith, place_below r' r c' cols (ltb-true _ _ g) b))
    go false false f g = le_antisymm (ltb-false _ _ g) (ltb-false _ _ f)

pub same_col : (r r' c c' cols : ℕ) → c < cols → c' < cols → r * cols + c ≡ r' * cols + c' → c ≡ c'
same_col r r' c c' cols a b e =
    let h : r * cols + c ≡ r * cols + c' = e ∙ ap (λ (k : ℕ). k * cols + c') (sym (same_row r r' c c' cols a b e)) in
    omega arith
