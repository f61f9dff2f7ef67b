-- An average of two, rounded up, is over a limit exactly where the sum is over twice the limit.
-- Assumes nothing.
use mathlib.Core.Path.{◌≡◌, sym, ap₂, ◌∙◌}
use mathlib.Core.Bool.{Bool, true, false}
use Prim.Native.Nat.{ℕ, ◌+◌, ◌*◌, ◌≤◌, max}
use native.Mathlib.Omega.{arith}
use borrow.Author.Tests.{le-ltb}
use lib.Dec.{ltb}
use Rattle.laws.specs.Choose.{pick, either, both}
use Rattle.rules.specs.Width.{avg}
use Rattle.width.proofs.Picks.{same_test, either_max}

pub twice : (limit x y : ℕ) → ltb (2 * limit) (x + y) ≡ ltb limit (avg x y)
twice limit x y = same_test (2 * limit) (x + y) limit (avg x y) (λ h. omega arith) (λ h. omega arith)

-- r is the sum
pub twice_is : (limit x y : ℕ) {r : ℕ} → r ≡ x + y → ltb (2 * limit) r ≡ ltb limit (avg x y)
twice_is limit x y e = rw e (twice limit x y)

-- the same of a sum that counts only where a test says so
counted : (limit x y : ℕ) (t : Bool) {r : ℕ} → r ≡ pick t (x + y) 0 → ltb (2 * limit) r ≡ both t (ltb limit (avg x y))
unfolding pick both
counted limit x y true e = twice_is limit x y e
counted limit x y false e = let l : 0 ≤ 2 * limit = omega arith in rw e (le-ltb (2 * limit) 0 l)

-- the larger of two sums, the second counted where a test says so
pub larger_is : (limit x y u v : ℕ) (t : Bool) {g h r : ℕ} → g ≡ x + y → h ≡ pick t (u + v) 0 → r ≡ max g h
    → ltb (2 * limit) r ≡ either (ltb limit (avg x y)) (both t (ltb limit (avg u v)))
larger_is limit x y u v t {g} {h} eg eh e =
    rw e (sym (either_max (2 * limit) g h) ∙ ap₂ (λ (a b : Bool). either a b) (twice_is limit x y eg) (counted limit u v t eh))
