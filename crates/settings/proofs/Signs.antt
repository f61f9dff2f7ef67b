-- A size of at most 127 as an i8, and a size below zero as one. Assumes nothing.
use mathlib.Core.Path.{◌≡◌}
use Prim.Native.Nat.{ℕ, zero, suc, ◌≤◌, ◌<◌}
use native.Mathlib.Omega.{arith}
use borrow.Author.Tests.{le-leb, lt-leb}
use lib.IntN.{pos, negsuc, neg_ℤ, ◌-ℤ◌}
use mir.Syntax.{w8}
use mir.Val.{SFits, to_z, of_z}
use mir.Facts.{to_z-of_z}
use Rattle.laws.specs.Choose.{pick}
use Rattle.laws.specs.Whole.{same, neg, count}
use Rattle.laws.proofs.Operations.{minus}
use Rattle.settings.specs.Values.{below_of, above_of}

plus_is : (n : ℕ) → n ≤ 127 → to_z w8 n ≡ pos n
plus_is n h = to_z-of_z {w = w8} {z = pos n} (record { sfits = omega arith })

none_less : (n : ℕ) → pos 0 -ℤ pos n ≡ neg_ℤ (pos n)
none_less n = same _ _ (minus (pos 0) (pos n) (count 0) (count n)) (neg (pos n) (count n)) (omega arith)

neg_fits : (n : ℕ) → n ≤ 127 → SFits w8 (neg_ℤ (pos n))
neg_fits zero h = record { sfits = omega arith }
neg_fits (suc n) h = record { sfits = omega arith }

module _ (n : ℕ) where
  less_is : n ≤ 127 → pos 0 -ℤ to_z w8 n ≡ neg_ℤ (pos n)
  less_is h = rw (plus_is n h) (none_less n)

  pub below_fits : n ≤ 10 → SFits w8 (pos 0 -ℤ to_z w8 n)
  below_fits h = rw (less_is (omega arith)) (neg_fits n (omega arith))

  pub below_in : n ≤ 10 → to_z w8 (of_z w8 (pos 0 -ℤ to_z w8 n)) ≡ below_of n
  unfolding below_of pick
  below_in h = rw (le-leb _ _ h, less_is (omega arith)) (to_z-of_z (neg_fits n (omega arith)))

  pub below_out : 10 < n → negsuc 127 ≡ below_of n
  unfolding below_of pick
  below_out h = rw (lt-leb _ _ h)

  pub above_in : n ≤ 7 → to_z w8 n ≡ above_of n
  unfolding above_of pick
  above_in h = rw (le-leb _ _ h) (plus_is n (omega arith))

  pub above_out : 7 < n → pos 127 ≡ above_of n
  unfolding above_of pick
  above_out h = rw (lt-leb _ _ h)
