-- The ladder's choices, one test after the other: each law takes the first test as the code found it.
-- Assumes nothing.
use mathlib.Core.Path.{◌≡◌, refl}
use mathlib.Core.Bool.{Bool, true, false}
use Prim.Native.Nat.{ℕ}
use borrow.Author.Tests.{eq-eqb, ne_eqb}
use lib.Dec.{eqb}
use Rattle.laws.specs.Choose.{pick}

module _ (a b u v z : ℕ) where
  pub pick_eq : a ≡ b → z ≡ u → z ≡ pick (eqb a b) u v
  unfolding pick
  pick_eq e f = rw (eq-eqb _ _ e) f

  pub pick_ne : (a ≡ b → ⊥) → z ≡ v → z ≡ pick (eqb a b) u v
  unfolding pick
  pick_ne e f = rw (ne_eqb _ _ e) f

  -- a is another number
  pub pick_past : (k : ℕ) → a ≡ k → eqb k b ≡ false → z ≡ v → z ≡ pick (eqb a b) u v
  unfolding pick
  pick_past k e n f = rw (e, n) f

-- by a test as it came out
pub pick_yes : (u v z : ℕ) (t : Bool) → t ≡ true → z ≡ u → z ≡ pick t u v
unfolding pick
pick_yes u v z t e f = rw e f

pub pick_not : (u v z : ℕ) (t : Bool) → t ≡ false → z ≡ v → z ≡ pick t u v
unfolding pick
pick_not u v z t e f = rw e f

pub ruleset ladders = (refl, pick_eq, pick_ne, pick_past, pick_yes, pick_not)
