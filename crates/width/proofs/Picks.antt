-- Choices by tests, one test after the other: each law takes the first test as the code found it.
-- Assumes nothing.
use mathlib.Core.Path.{◌≡◌, refl, sym, ◌∙◌}
use mathlib.Core.Bool.{Bool, true, false}
use Prim.Native.Nat.{ℕ, ◌≤◌, ◌<◌, max}
use native.Mathlib.Omega.{arith}
use borrow.Author.Tests.{ltb-true, ltb-false, eq-eqb, ne_eqb, lt-ltb, le-ltb, le-leb, lt-leb}
use lib.Dec.{eqb, ltb, leb}
use Rattle.laws.specs.Choose.{pick, either, both}

-- ---- which of two is chosen
module _ (a b u v z : ℕ) where
  pub pick_lt : a < b → z ≡ u → z ≡ pick (ltb a b) u v
  unfolding pick
  pick_lt e f = rw (lt-ltb _ _ e) f

  pub pick_ge : b ≤ a → z ≡ v → z ≡ pick (ltb a b) u v
  unfolding pick
  pick_ge e f = rw (le-ltb _ _ e) f

-- by what a call answered
pub said_yes : (u v z : ℕ) (r t : Bool) → r ≡ t → r ≡ true → z ≡ u → z ≡ pick t u v
unfolding pick
said_yes u v z r t e y f = rw (← e, y) f

pub said_not : (u v z : ℕ) (r t : Bool) → r ≡ t → r ≡ false → z ≡ v → z ≡ pick t u v
unfolding pick
said_not u v z r t e y f = rw (← e, y) f

-- ---- one test or another, by how the first came out
pub or_first : (s t : Bool) → s ≡ true → s ≡ either s t
unfolding either
or_first s t e = rw e

pub or_second : (s t : Bool) {z : Bool} → s ≡ false → z ≡ t → z ≡ either s t
unfolding either
or_second s t e f = rw e f

module _ (a b : ℕ) (t : Bool) where
  pub or_eq : a ≡ b → eqb a b ≡ either (eqb a b) t
  or_eq e = or_first _ _ (eq-eqb _ _ e)

  pub or_ne : {z : Bool} → (a ≡ b → ⊥) → z ≡ t → z ≡ either (eqb a b) t
  or_ne e f = or_second _ _ (ne_eqb _ _ e) f

  pub or_lt : a < b → ltb a b ≡ either (ltb a b) t
  or_lt e = or_first _ _ (lt-ltb _ _ e)

  pub or_ge : {z : Bool} → b ≤ a → z ≡ t → z ≡ either (ltb a b) t
  or_ge e f = or_second _ _ (le-ltb _ _ e) f

  -- the number tested is what a call answered
  pub or_under : {r : ℕ} → r ≡ a → r < b → ltb r b ≡ either (ltb a b) t
  or_under e h = rw e (or_lt (rw e at h))

  pub or_over : {r : ℕ} {z : Bool} → r ≡ a → b ≤ r → z ≡ t → z ≡ either (ltb a b) t
  or_over e h f = or_ge (rw e at h) f

-- one test and another
module _ (a b : ℕ) (t : Bool) where
  pub and_le : {z : Bool} → a ≤ b → z ≡ t → z ≡ both (leb a b) t
  unfolding both
  and_le h f = rw (le-leb _ _ h) f

  pub and_gt : b < a → false ≡ both (leb a b) t
  unfolding both
  and_gt h = rw (lt-leb _ _ h)

-- a number that counts only where a test says so
module _ (a b u : ℕ) where
  pub count_le : {z : ℕ} → a ≤ b → z ≡ u → z ≡ pick (leb a b) u 0
  unfolding pick
  count_le h f = rw (le-leb _ _ h) f

  pub count_gt : b < a → 0 ≡ pick (leb a b) u 0
  unfolding pick
  count_gt h = rw (lt-leb _ _ h)

pub ruleset ors = (refl, or_eq, or_ne, or_lt, or_ge)

-- ---- two tests that are one
pub same_test : (a b c d : ℕ) → (a < b → c < d) → (b ≤ a → d ≤ c) → ltb a b ≡ ltb c d
same_test a b c d f g = out (ltb a b) refl
  where
    out : (t : Bool) → ltb a b ≡ t → ltb a b ≡ ltb c d
    out true e = e ∙ sym (lt-ltb c d (f (ltb-true a b e)))
    out false e = e ∙ sym (le-ltb c d (g (ltb-false a b e)))

-- one of two is over a limit exactly where the larger is
pub either_max : (s e f : ℕ) → either (ltb s e) (ltb s f) ≡ ltb s (max e f)
unfolding either
either_max s e f = out (ltb s e) (ltb s f) refl refl
  where
    out : (x y : Bool) → ltb s e ≡ x → ltb s f ≡ y → either (ltb s e) (ltb s f) ≡ ltb s (max e f)
    out true y p q = let l : s < max e f = omega (arith, ltb-true s e p) in rw (p, lt-ltb _ _ l)
    out false true p q = let l : s < max e f = omega (arith, ltb-true s f q) in rw (p, q, lt-ltb _ _ l)
    out false false p q = let l : max e f ≤ s = omega (arith, ltb-false s e p, ltb-false s f q) in rw (p, q, le-ltb _ _ l)
