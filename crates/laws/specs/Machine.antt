-- A signed number as the machine holds it, in w bits, read as a difference of two counts: at any width, and then at 32.
-- Assumes nothing.
use Rattle.std.specs.Prelude.{◌≡◌, ℕ, ◌+◌, ◌≤◌, ◌<◌, ◌^◌, ℤ, pos, negsuc, T, leb}
use Rattle.std.proofs.Common.{arith, to_z-of_z}
use Rattle.std.specs.Int.Signed.{non_neg, mag}
use Rattle.std.specs.Int.{Width, w32}
use mir.Val.{SFits, to_z, of_z, hbits}
use Rattle.std.proofs.Math.Facts.{sfits_widen}
use Rattle.laws.specs.Whole.{Is, count, parted, over, under}

-- ---- at any width

-- a number of that range fits
pub fits_at : (w : Width) (z : ℤ) {a b : ℕ} → Is z a b → a < b + 2 ^ hbits w → b ≤ a + 2 ^ hbits w → SFits w z
fits_at w (pos n) h p q = record { sfits = omega arith }
fits_at w (negsuc n) h p q = record { sfits = omega arith }

-- one that fits has that range
pub below_at : (w : Width) (z : ℤ) → SFits w z → over z < 2 ^ hbits w
below_at w (pos n) f = f.sfits
below_at w (negsuc n) f = omega (arith, f.sfits)

pub above_at : (w : Width) (z : ℤ) → SFits w z → under z ≤ 2 ^ hbits w
above_at w (pos n) f = omega arith
above_at w (negsuc n) f = f.sfits

-- a number of w bits that is cast to more bits: it fits, and is the same
pub widened : (w v : Width) {z : ℤ} → T (leb (hbits w) (hbits v)) → SFits w z → SFits v (to_z w (of_z w z))
widened w v t f = rw (to_z-of_z f) (sfits_widen t f)

pub wide_same : (w v : Width) {z : ℤ} → T (leb (hbits w) (hbits v)) → SFits w z → to_z v (of_z v (to_z w (of_z w z))) ≡ z
wide_same w v t f = rw (to_z-of_z f) (to_z-of_z (sfits_widen t f))

-- a number z that was passed to `Gap::from`, and what that gave
pub split_parts : (w : Width) {z : ℤ} {a b : ℕ} → SFits w z → (a ≡ over (to_z w (of_z w z))) × (b ≡ under (to_z w (of_z w z))) → (a ≡ over z) × (b ≡ under z)
split_parts w f e = rw (to_z-of_z f) at e

pub split_is : (w : Width) {z : ℤ} {a b : ℕ} → SFits w z → (a ≡ over (to_z w (of_z w z))) × (b ≡ under (to_z w (of_z w z))) → Is z a b
split_is w {z} f e = parted z (split_parts w f e)

-- ---- at 32 bits

pub fits : (z : ℤ) {a b : ℕ} → Is z a b → a ≤ b + 2147483647 → b ≤ a + 2147483647 → SFits w32 z
fits (pos n) h p q = record { sfits = omega arith }
fits (negsuc n) h p q = record { sfits = omega arith }

-- a number that was stored and read back
pub word : (z : ℤ) {a b : ℕ} → Is z a b → a ≤ b + 2147483647 → b ≤ a + 2147483647 → Is (to_z w32 (of_z w32 z)) a b
word z h p q = rw (to_z-of_z (fits z h p q)) h

-- what a call gave or was passed, by its range
pub back : (z : ℤ) → mag z < 2147483648 → to_z w32 (of_z w32 z) ≡ z
back z h = to_z-of_z {w = w32} (record { sfits = h })

-- a u16 cast to an i32
pub short : (n : ℕ) → n < 65536 → Is (to_z w32 n) n 0
short n h = word (pos n) (count n) (omega arith) (omega arith)

-- a u32 cast to an i32
pub held : (n : ℕ) → n < 2147483648 → Is (to_z w32 n) n 0
held n h = word (pos n) (count n) (omega arith) (omega arith)

-- not negative
pub non_neg_holds : (z : ℤ) {a b : ℕ} → Is z a b → b ≤ a → T (non_neg z)
non_neg_holds (pos n) h l = tt
non_neg_holds (negsuc n) h l = absurd (omega arith)
