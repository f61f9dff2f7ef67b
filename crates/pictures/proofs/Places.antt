-- The places of rows of w numbers that follow each other, from place p on. Assumes nothing.
use mathlib.Core.Path.{◌≡◌, ap, ◌∙◌}
use Prim.Native.Nat.{ℕ, ◌+◌, ◌*◌, ◌≤◌}
use native.Mathlib.Nat.{mul-suc, mul-zero, le_antisymm}
use native.Mathlib.Numerals.{add-one}
use native.Mathlib.Omega.{arith}

pub first_place : (p w : ℕ) → p ≡ p + w * 0
first_place p w = omega (arith, mul-zero w)

pub row_place : (p at w r : ℕ) → at ≡ p + w * r → at + w ≡ p + w * (r + 1)
row_place p at w r h = omega (arith, mul-suc w r, ap (λ (k : ℕ). w * k) (add-one r))

pub last_place : (p at w r n : ℕ) → at ≡ p + w * r → r ≤ n → n ≤ r → at ≡ p + w * n
last_place p at w r n h a b = h ∙ ap (λ (k : ℕ). p + w * k) (le_antisymm a b)

-- from place 0 on
pub next_row : (at w r : ℕ) → at ≡ w * r → at + w ≡ w * (r + 1)
next_row at w r h = omega (arith, row_place 0 at w r (omega arith))

-- n rows are within a list where the place after them is
pub all_rows : (at w r n m : ℕ) → at ≡ w * r → r ≤ n → n ≤ r → at ≤ m → w * n ≤ m
all_rows at w r n m e a b h = omega (arith, e, ap (λ (k : ℕ). w * k) (le_antisymm a b))
