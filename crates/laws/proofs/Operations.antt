-- Whole numbers read as differences of two counts (specs/Whole): each operation has a law that keeps the form.
-- Assumes nothing.
use Rattle.std.specs.Prelude.{◌≡◌, ℕ, suc, ◌+◌, ◌*◌, ◌-◌, ◌/◌, min, ℤ, pos, negsuc, neg_ℤ, ◌+ℤ◌, ◌-ℤ◌, ◌*ℤ◌}
use Rattle.std.proofs.Common.{ap, ◌∙◌, arith, mul-add, add-mul}
use Rattle.std.specs.Int.Signed.{shr_z}
use Rattle.laws.specs.Whole.{Is, count, recast, less, neg, within, limit, limit_is}

pub plus : (z w : ℤ) {a b c d : ℕ} → Is z a b → Is w c d → Is (z +ℤ w) (a + c) (b + d)
plus (pos m) (pos n) h k = record { eq = omega arith }
plus (pos m) (negsuc n) h k = let l = less m (suc n) in record { eq = omega arith }
plus (negsuc m) (pos n) h k = let l = less n (suc m) in record { eq = omega arith }
plus (negsuc m) (negsuc n) h k = record { eq = omega arith }

pub minus : (z w : ℤ) {a b c d : ℕ} → Is z a b → Is w c d → Is (z -ℤ w) (a + d) (b + c)
minus z w h k = plus z (neg_ℤ w) h (neg w k)

-- of two counts
pub differ : (a b : ℕ) → Is (pos a -ℤ pos b) a b
differ a b = recast (minus (pos a) (pos b) (count a) (count b)) (omega arith)

-- by a count on the right
pub times : (z : ℤ) (k : ℕ) {a b : ℕ} → Is z a b → Is (z *ℤ pos k) (a * k) (b * k)
times (pos m) k {a} {b} h = record { eq = omega (arith, ap (λ (n : ℕ). n * k) h.eq, add-mul m b k) }
times (negsuc m) k {a} {b} h = neg (pos (suc m * k)) (record { eq = omega (arith, ap (λ (n : ℕ). n * k) h.eq, add-mul a (suc m) k) })

-- by a count on the left
pub scale : (k : ℕ) (z : ℤ) {a b : ℕ} → Is z a b → Is (pos k *ℤ z) (k * a) (k * b)
scale k (pos m) {a} {b} h = record { eq = omega (arith, ap (λ (n : ℕ). k * n) h.eq, mul-add k m b) }
scale k (negsuc m) {a} {b} h = neg (pos (k * suc m)) (record { eq = omega (arith, ap (λ (n : ℕ). k * n) h.eq, mul-add k a (suc m)) })

-- ---- limits and the floor of a quotient

pub within_is : (size : ℕ) (z : ℤ) {a b : ℕ} → Is z a b → Is (within size z) (min (a - b) size) (min (b - a) size)
within_is size (pos n) h = record { eq = omega arith }
within_is size (negsuc n) h = neg (pos (min (suc n) size)) (record { eq = omega arith })

-- the floor of z / 2048, and x plus it
pub floor_plus : (x : ℕ) (z : ℤ) {a b : ℕ} → Is z a b → Is (pos x +ℤ shr_z z 2048) ((2048 * x + a - b) / 2048) ((b + 2047 - (2048 * x + a)) / 2048)
floor_plus x (pos n) h = record { eq = omega arith }
floor_plus x (negsuc n) h = let l = less x (suc (n / 2048)) in record { eq = omega arith }

pub floor_minus : (x : ℕ) (z : ℤ) {a b : ℕ} → Is z a b → Is (pos x -ℤ shr_z z 2048) ((2048 * x + b + 2047 - a) / 2048) ((a - (2048 * x + b)) / 2048)
floor_minus x (pos n) h = let l = minus (pos x) (pos (n / 2048)) (count x) (count (n / 2048)) in record { eq = omega arith }
floor_minus x (negsuc n) h = record { eq = omega arith }

-- the same, limited to 0..top
pub limit_plus : (top x : ℕ) (z : ℤ) {a b : ℕ} → Is z a b → limit top (pos x +ℤ shr_z z 2048) ≡ min ((2048 * x + a - b) / 2048) top
limit_plus top x z {a} {b} h = limit_is top _ (floor_plus x z h) ∙ drop0 top (2048 * x + a) b
  where
    drop0 : (top n b : ℕ) → min ((n - b) / 2048 - (b + 2047 - n) / 2048) top ≡ min ((n - b) / 2048) top
    drop0 top n b = omega arith

pub limit_minus : (top x : ℕ) (z : ℤ) {a b : ℕ} → Is z a b → limit top (pos x -ℤ shr_z z 2048) ≡ min ((2048 * x + b + 2047 - a) / 2048) top
limit_minus top x z {a} {b} h = limit_is top _ (floor_minus x z h) ∙ drop0 top (2048 * x + b) a
  where
    drop0 : (top n a : ℕ) → min ((n + 2047 - a) / 2048 - (a - n) / 2048) top ≡ min ((n + 2047 - a) / 2048) top
    drop0 top n a = omega arith
