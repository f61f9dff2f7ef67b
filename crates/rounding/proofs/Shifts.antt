-- Shifts to the right by a subsampling of 0 or 1.
-- Assumes nothing.
use mathlib.Core.Path.{◌≡◌, refl}
use Prim.Native.Nat.{ℕ, zero, suc, ◌/◌, ◌^◌, ◌≤◌}
use native.Mathlib.Omega.{arith}
use Rattle.rules.specs.Numbers.{down}

pub is_one : (ss : ℕ) → ss ≤ 1 → (ss ≡ 0 → ⊥) → ss ≡ 1
is_one zero h f = absurd (f refl)
is_one (suc k) h f = omega arith

-- by 0, and by 1
pub down_none : (ss n : ℕ) → ss ≡ 0 → n ≡ down ss n
unfolding down
down_none ss n e = rw e (omega arith)

pub down_half : (ss n : ℕ) → ss ≤ 1 → (ss ≡ 0 → ⊥) → n / 2 ≡ down ss n
unfolding down
down_half ss n h f = rw (is_one ss h f)
