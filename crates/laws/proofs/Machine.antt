-- A number that the machine stored and read back, in w bits, read as a difference of two counts.
-- Assumes nothing.
use Rattle.std.specs.Prelude.{ℕ, ◌+◌, ◌≤◌, ◌<◌, ◌^◌, ℤ}
use Rattle.std.proofs.Common.{to_z-of_z}
use Rattle.std.specs.Int.{Width}
use mir.Val.{to_z, of_z, hbits}
use Rattle.laws.specs.Whole.{Is}
use Rattle.laws.specs.Machine.{fits_at}

-- a number that was stored and read back
pub word_at : (w : Width) (z : ℤ) {a b : ℕ} → Is z a b → a < b + 2 ^ hbits w → b ≤ a + 2 ^ hbits w → Is (to_z w (of_z w z)) a b
word_at w z h p q = rw (to_z-of_z (fits_at w z h p q)) h
