-- Numbers in a range around 0, stored as an i32 or a byte and read back.
-- Assumes nothing.
use mathlib.Core.Path.{◌≡◌}
use Prim.Native.Nat.{ℕ, ◌≤◌}
use native.Mathlib.Omega.{arith}
use borrow.Author.Rules.{rules}
use lib.IntN.{ℤ, pos, negsuc}
use mir.Syntax.{w8, w32}
use mir.Val.{SFits, to_z, of_z}
use mir.Facts.{to_z-of_z}
use Rattle.laws.specs.Whole.{Is, self}
use Rattle.laws.specs.Machine.{fits}
use Rattle.ccso_sample.specs.Ranges.{SignedWithin}

-- a number in a small range, stored and read back
pub back : (z : ℤ) {most : ℕ} → SignedWithin z most → most ≤ 4095 → to_z w32 (of_z w32 z) ≡ z
back z h l = to_z-of_z (fits z (self z) (omega arith) (omega arith))

pub back_within : (z : ℤ) (most : ℕ) → SignedWithin z most → most ≤ 4095 → SignedWithin (to_z w32 (of_z w32 z)) most
back_within z most h l = rw (back z h l) h

pub back_is : (z : ℤ) {most a b : ℕ} → SignedWithin z most → most ≤ 4095 → Is (to_z w32 (of_z w32 z)) a b → Is z a b
back_is z h l e = rw (back z h l) at e

-- the same of an offset, a byte that is read as a wider number
byte_fits : (z : ℤ) → SignedWithin z 10 → SFits w8 z
byte_fits (pos n) h = record { sfits = omega arith }
byte_fits (negsuc n) h = record { sfits = omega arith }

pub byte : (z : ℤ) → SignedWithin z 10 → to_z w8 (of_z w8 z) ≡ z
byte z h = to_z-of_z (byte_fits z h)

pub byte_kept : (z : ℤ) → SignedWithin z 10 → SignedWithin (to_z w8 (of_z w8 z)) 10
byte_kept z h = rw (byte z h) h

pub byte_word : (z : ℤ) → SignedWithin z 10 → SFits w32 (to_z w8 (of_z w8 z))
byte_word z h = rw (byte z h) (fits z (self z) (omega arith) (omega arith))

pub byte_within : (z : ℤ) → SignedWithin z 10 → SignedWithin (to_z w32 (of_z w32 (to_z w8 (of_z w8 z)))) 10
byte_within z h = rw (byte z h) (back_within z 10 h (omega arith))

pub byte_is : (z : ℤ) {a b : ℕ} → SignedWithin z 10 → Is (to_z w32 (of_z w32 (to_z w8 (of_z w8 z)))) a b → Is z a b
byte_is z {a} {b} h e = back_is z h (omega arith) (rw (byte z h) at e)

pub ruleset raises = (rules, back_within)
