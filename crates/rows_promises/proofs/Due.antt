-- How to read the rows of horizontal edges that are done: those with y + 8 <= A, and all at full height.
-- Assumes nothing.
use mathlib.Core.Logic.{◌⊎◌, inl, inr, ⊎_elim, ◌↔◌}
use Prim.Native.Nat.{ℕ, ◌+◌, ◌*◌, ◌≤◌, ◌<◌}
use native.Mathlib.Decide.{dec_le}
use native.Mathlib.Omega.{arith}
use Rattle.rules.specs.Rows.{ready}
use Rattle.orders.proofs.Bands.{ready_full, ready_part}

-- a row r of cells, whose horizontal edges stand at y = 4r, when A = 4a rows of samples are filled
pub due : (rows a r : ℕ) → r < rows → (r < ready rows a) ↔ ((4 * r + 8 ≤ 4 * a) ⊎ (rows ≤ a))
due rows a r h = (there, back)
  where
    there : r < ready rows a → (4 * r + 8 ≤ 4 * a) ⊎ (rows ≤ a)
    there l = elim (dec_le rows a) [
      | yes f ↦ inr f
      | no f ↦ inl (omega (arith, l, ready_part rows a (omega arith)))
    ]

    back : (4 * r + 8 ≤ 4 * a) ⊎ (rows ≤ a) → r < ready rows a
    back e = elim (dec_le rows a) [
      | yes f ↦ omega (arith, ready_full rows a f)
      | no f ↦ ⊎_elim (λ l. omega (arith, l, ready_part rows a (omega arith))) (λ l. absurd (f l)) e
    ]
