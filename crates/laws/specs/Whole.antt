-- Whole numbers (ℤ of lib.IntN) read as differences of two counts, so that `omega`, which reads ℕ alone, can decide facts on them.
-- `Is z a b` says z = a - b, and `same` closes an equation of ℤ by one of ℕ; the laws of the operations stand in proofs/Operations.
-- Assumes nothing.
use Rattle.std.specs.Prelude.{◌≡◌, refl, Bool, true, false, not, cond, ℕ, zero, suc, ◌+◌, ◌-◌, ◌≤◌, ◌<◌, min, max, T, ltb, ℤ, pos, negsuc, neg_ℤ, nat_abs}
use Rattle.std.proofs.Common.{ap, arith, ltb→lt, nltb→le}
use Rattle.std.proofs.Math.IntN.{sub_ℕ}

-- the part of z above 0, and the part below it
abbrev pub over : ℤ → ℕ
over (pos n) = n
over (negsuc n) = 0

abbrev pub under : ℤ → ℕ
under (pos n) = 0
under (negsuc n) = suc n

-- z = a - b
pub record Is (z : ℤ) (a b : ℕ) : Type 0 where
  pub eq : over z + b ≡ a + under z

pub same : (z w : ℤ) {a b c d : ℕ} → Is z a b → Is w c d → a + d ≡ c + b → z ≡ w
same (pos m) (pos n) h k e = ap pos (omega arith)
same (pos m) (negsuc n) h k e = absurd (omega arith)
same (negsuc m) (pos n) h k e = absurd (omega arith)
same (negsuc m) (negsuc n) h k e = ap negsuc (omega arith)

pub self : (z : ℤ) → Is z (over z) (under z)
self z = record { eq = refl }

-- what `Gap::from` gives
pub parted : (z : ℤ) {a b : ℕ} → (a ≡ over z) × (b ≡ under z) → Is z a b
parted z e = record { eq = omega arith }

-- a number is not both above 0 and below it
pub none_over : (z : ℤ) → over z < under z → 0 ≡ over z
none_over (pos n) h = absurd (omega arith)
none_over (negsuc n) h = refl

pub none_under : (z : ℤ) → under z ≤ over z → 0 ≡ under z
none_under (pos n) h = refl
none_under (negsuc n) h = absurd (omega arith)

pub count : (n : ℕ) → Is (pos n) n 0
count n = record { eq = refl }

-- the same number as another difference
pub recast : {z : ℤ} {a b c d : ℕ} → Is z a b → a + d ≡ c + b → Is z c d
recast h e = record { eq = omega arith }

-- a fact of both arms of a `cond` is a fact of the `cond`
arms : (c : Bool) (x y : ℤ) (P : ℤ → Type 0) → (T c → P x) → (T (not c) → P y) → P (cond c x y)
arms true x y P f g = f tt
arms false x y P f g = g tt

-- `sub_ℕ a b` is a - b of two counts
pub less : (a b : ℕ) → Is (sub_ℕ a b) a b
less a b =
    arms (ltb a b) (negsuc (b - suc a)) (pos (a - b)) (λ z. Is z a b) (λ t. low a b (ltb→lt a b t)) (λ t. high a b (nltb→le a b t))
  where
    low : (a b : ℕ) → a < b → Is (negsuc (b - suc a)) a b
    low a b h = record { eq = omega arith }

    high : (a b : ℕ) → b ≤ a → Is (pos (a - b)) a b
    high a b h = record { eq = omega arith }

pub neg : (z : ℤ) {a b : ℕ} → Is z a b → Is (neg_ℤ z) b a
neg (pos zero) h = record { eq = omega arith }
neg (pos (suc n)) h = record { eq = omega arith }
neg (negsuc n) h = record { eq = omega arith }

-- ---- limits and size

-- z limited to -size..size
abbrev pub within : ℕ → ℤ → ℤ
within size (pos n) = pos (min n size)
within size (negsuc n) = neg_ℤ (pos (min (suc n) size))

-- z limited to 0..top
abbrev pub limit : ℕ → ℤ → ℕ
limit top (pos n) = min n top
limit top (negsuc n) = 0

pub limit_is : (top : ℕ) (z : ℤ) {a b : ℕ} → Is z a b → limit top z ≡ min (a - b) top
limit_is top (pos n) h = omega arith
limit_is top (negsuc n) h = omega arith

pub limit_most : (top : ℕ) (z : ℤ) → limit top z ≤ top
limit_most top (pos n) = omega arith
limit_most top (negsuc n) = omega arith

pub size_is : (z : ℤ) {a b : ℕ} → Is z a b → nat_abs z ≡ (a - b) + (b - a)
size_is (pos n) h = omega arith
size_is (negsuc n) h = omega arith

pub over_le : (z : ℤ) → over z ≤ nat_abs z
over_le (pos n) = omega arith
over_le (negsuc n) = omega arith

pub under_le : (z : ℤ) → under z ≤ nat_abs z
under_le (pos n) = omega arith
under_le (negsuc n) = omega arith

-- z limited to low..high
abbrev pub between : ℕ → ℕ → ℤ → ℕ
between low high (pos n) = max low (min n high)
between low high (negsuc n) = low

pub between_is : (low high : ℕ) (z : ℤ) {a b : ℕ} → low ≤ high → Is z a b → between low high z ≡ max low (min (a - b) high)
between_is low high (pos n) l h = omega arith
between_is low high (negsuc n) l h = omega arith
