-- How many rows are final when so many are filled.
-- Assumes nothing.
use mathlib.Core.Path.{◌≡◌, refl, sym}
use Prim.Native.Nat.{ℕ, ◌*◌, ◌-◌, ◌≤◌, ◌<◌}
use native.Mathlib.Decide.{dec_le}
use native.Mathlib.Omega.{arith}
use lib.Dec.{leb}
use Rattle.laws.specs.Choose.{is_le, not_le, pick_yes, pick_no}
use Rattle.rules.specs.Rows.{final_of}

module _ (rows a : ℕ) where
  -- all rows at full height, and else all but the last twelve
  pub final_full : 4 * rows ≤ a → final_of rows a ≡ 4 * rows
  unfolding final_of
  final_full h = sym (pick_yes (leb (4 * rows) a) (4 * rows) (a - 12) _ (is_le (4 * rows) a h) refl)

  pub final_part : a < 4 * rows → final_of rows a ≡ a - 12
  unfolding final_of
  final_part h = sym (pick_no (leb (4 * rows) a) (4 * rows) (a - 12) _ (not_le (4 * rows) a h) refl)

  pub final_none : a < 4 * rows → a < 12 → 0 ≡ final_of rows a
  final_none h k = omega (arith, final_part h)

  pub final_in : final_of rows a ≤ 4 * rows
  final_in = elim (dec_le (4 * rows) a) [
    | yes h ↦ omega (arith, final_full h)
    | no h ↦ omega (arith, final_part (omega arith))
  ]
