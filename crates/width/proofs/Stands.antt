-- The tests at the distances 4, 6 and 8: what belongs to a distance, and where the tests stand.
-- Assumes nothing.
use mathlib.Core.Path.{◌≡◌, refl, sym, ap, ◌∙◌}
use mathlib.Core.Bool.{Bool, true, false}
use mathlib.Core.List.{List}
use Prim.Native.Nat.{ℕ, suc, ◌+◌, ◌-◌, ◌*◌, ◌/◌, ◌≤◌, ◌<◌}
use native.Mathlib.Omega.{arith}
use native.Mathlib.Decide.{ℕ_discrete}
use borrow.Author.Rules.{rules}
use borrow.Author.Tests.{le-leb, lt-leb}
use lib.Dec.{leb}
use Rattle.laws.specs.Choose.{pick}
use Rattle.rules.specs.declared.edge.Line.{Line}
use Rattle.rules.specs.Width.{at_distance, fails_of, from_of, far_of}
use Rattle.width.specs.Ends.{Distance}

-- ---- what belongs to a distance
module _ (a b c d : ℕ) where
  pub at_4 : d ≡ 4 → a ≡ at_distance a b c d
  unfolding at_distance
  at_4 e = rw e

  pub at_6 : d ≡ 6 → b ≡ at_distance a b c d
  unfolding at_distance
  at_6 e = rw e

  pub at_8 : Distance d → (d ≡ 4 → ⊥) → (d ≡ 6 → ⊥) → c ≡ at_distance a b c d
  unfolding at_distance
  at_8 h f g = let e : d ≡ 8 = omega arith in rw e

pub times : (q : ℕ) {x y : ℕ} → x ≡ y → q * x ≡ q * y
times q e = ap (λ (n : ℕ). q * n) e

pub ruleset distances = (rules, at_4, at_6, at_8, times)

pub first_distance : Distance 4
first_distance = search rules

pub next_distance : {d p : ℕ} → Distance d → d < p → p ≤ 8 → Distance (d + 2)
next_distance h l m = record { least = omega arith; most = omega arith; even = omega arith }

-- what holds at 4, 6 and 8 holds at every distance
by_distance : (P : ℕ → Type 0) {d : ℕ} → Distance d → P 4 → P 6 → P 8 → P d
by_distance P {d} h x y z = elim (ℕ_discrete d 4) [
  | yes e ↦ rw e x
  | no f ↦ elim (ℕ_discrete d 6) [
    | yes e ↦ rw e y
    | no g ↦ let e : d ≡ 8 = omega arith in rw e z
  ]
]

-- the ramp that is tested at a distance lies no further out
pub ramp_near : {d : ℕ} → Distance d → (at_distance 4 6 7 d ≤ d) × (at_distance 4 6 7 d ≤ 7)
unfolding at_distance
ramp_near h = by_distance (λ k. (at_distance 4 6 7 k ≤ k) × (at_distance 4 6 7 k ≤ 7)) h (omega arith, omega arith) (omega arith, omega arith) (omega arith, omega arith)

-- ---- one test more
module _ (ls : List Line) (n p q side g : ℕ) where
  -- the width by the tests from d on
  abbrev from : ℕ → ℕ
  from d = from_of ls n p q side g ((10 - d) / 2) d

  from_step : (d : ℕ) → Distance d → from d ≡ pick (fails_of ls n q side g d) (at_distance 3 4 6 d) (pick (leb p d) d (from (d + 2)))
  unfolding from_of
  from_step d h =
      let e : (10 - d) / 2 ≡ suc ((10 - (d + 2)) / 2) = omega arith in
      ap (λ (k : ℕ). from_of ls n p q side g k d) e

  -- where the tests stand: what is left of them decides
  abbrev pub Stands : ℕ → Type 0
  Stands d = far_of ls n p q side g ≡ from d

  pub far_start : Stands 4
  unfolding far_of
  far_start = refl

  pub far_failed : {d z : ℕ} {r : Bool} → Stands d → Distance d → r ≡ fails_of ls n q side g d → r ≡ true → z ≡ at_distance 3 4 6 d → z ≡ far_of ls n p q side g
  unfolding pick
  far_failed {d} s h e y f = f ∙ sym (s ∙ from_step d h ∙ rw (← e, y))

  pub far_reached : {d : ℕ} {r : Bool} → Stands d → Distance d → r ≡ fails_of ls n q side g d → r ≡ false → p ≤ d → d ≡ far_of ls n p q side g
  unfolding pick
  far_reached {d} s h e y f = sym (s ∙ from_step d h ∙ rw (← e, y, le-leb _ _ f))

  pub far_next : {d : ℕ} {r : Bool} → Stands d → Distance d → r ≡ fails_of ls n q side g d → r ≡ false → d < p → Stands (d + 2)
  unfolding pick
  far_next {d} s h e y f = s ∙ from_step d h ∙ rw (← e, y, lt-leb _ _ f)

pub ruleset stands = (rules, far_start, far_failed, far_reached, far_next, first_distance, next_distance)
