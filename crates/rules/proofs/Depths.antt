-- A depth is 8, 10 or 12: what holds at these three holds of it.
-- Assumes nothing.
use mathlib.Core.Path.{◌≡◌, refl, sym, ap, ◌∙◌}
use mathlib.Core.Bool.{Bool, true, false}
use Prim.Native.Nat.{ℕ}
use native.Mathlib.Omega.{arith}
use native.Mathlib.Decide.{ℕ_discrete}
use lib.Dec.{eqb}
use borrow.Author.Tests.{eq-eqb, ne_eqb}
use Rattle.laws.specs.Choose.{either}
use Rattle.rules.specs.Numbers.{depth_ok}

-- the last of the three, by the other two
pub last : (d : ℕ) → depth_ok d ≡ true → (d ≡ 8 → ⊥) → (d ≡ 10 → ⊥) → d ≡ 12
unfolding depth_ok either
last d ok a b = elim (ℕ_discrete d 12) [
  | yes e ↦ e
  | no n ↦ absurd (let z : false ≡ true = rw (ne_eqb d 8 a, ne_eqb d 10 b, ne_eqb d 12 n) at ok in never z)
]
  where
    never : false ≡ true → ⊥
    never z = let y : ◌≡◌ {A = ℕ} 0 1 = cc in omega arith

-- a property of the three is one of every depth
pub by_depth : (P : ℕ → Type 0) → P 8 → P 10 → P 12 → (d : ℕ) → depth_ok d ≡ true → P d
by_depth P x y z d ok = elim (ℕ_discrete d 8) [
  | yes e ↦ rw e x
  | no a ↦ elim (ℕ_discrete d 10) [
    | yes e ↦ rw e y
    | no b ↦ rw (last d ok a b) z
  ]
]

-- no other number is one
pub other : (d : ℕ) → (d ≡ 8 → ⊥) → (d ≡ 10 → ⊥) → (d ≡ 12 → ⊥) → false ≡ depth_ok d
unfolding depth_ok either
other d a b c = rw (ne_eqb d 8 a, ne_eqb d 10 b, ne_eqb d 12 c)
