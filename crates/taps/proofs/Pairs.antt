-- A pair of samples that one move takes: what no limit meets is what the limited one would be, and both change or neither does.
-- Assumes nothing.
use Rattle.std.proofs.Common.{◌≡◌, ℕ, ◌+◌, ◌-◌, ◌*◌, ◌%◌, ◌≤◌, min, refl, Bool, true, false, not, nat_eq, arith}
use Rattle.std.specs.Int.{from_bool}
use Rattle.laws.specs.Choose.{pick}
use native.Mathlib.Decide.{ℕ_discrete}
use Rattle.laws.specs.Changes.{differ, differ_not, differ_some}

-- a move of 0 changes neither, any other both
both_change : (n x y v u m : ℕ) → v ≡ x + n → u + n ≡ y → m ≡ differ n 0 → differ x v + differ y u ≡ 2 * m
both_change n x y v u m ev eu em = elim (ℕ_discrete n 0) [
  | yes e ↦ omega (arith, differ_not x v (omega arith), differ_not y u (omega arith), differ_not n 0 e)
  | no f ↦ omega (arith, differ_some x v (λ z. f (omega arith)), differ_some y u (λ z. f (omega arith)), differ_some n 0 f)
]

-- v is x + n, and u is y - n, which has not wrapped where it is at most top
pub pair_is : (top x y n v u : ℕ) → v ≡ x + n → v ≤ top → u ≤ top → top ≤ 65535 → n ≤ 30000 → y ≤ 65535 → u ≡ (y + (4294967296 - n)) % 4294967296
    → (v ≡ min (x + n) top) × (u ≡ min (y - n) top) × (differ x v + differ y u ≡ 2 * differ n 0)
pair_is top x y n v u ev hv hu ht hn hy eu =
    let s : u + n ≡ y = omega arith in
    (omega arith, omega arith, both_change n x y v u (differ n 0) ev s refl)

-- 1 where two numbers differ, as a test
pub differ_bit : (x y : ℕ) {k : ℕ} → k ≡ from_bool (not (nat_eq x y)) → (k ≡ differ x y) × (k ≤ 1)
unfolding differ pick
differ_bit x y e = go (nat_eq x y) e
  where
    go : (t : Bool) {k : ℕ} → k ≡ from_bool (not t) → (k ≡ pick t 0 1) × (k ≤ 1)
    go true e = (e, omega arith)
    go false e = (e, omega arith)
