-- Numbers in a range: how its tests come out, and what they say.
-- Assumes nothing.
use mathlib.Core.Path.{◌≡◌, refl}
use mathlib.Core.Bool.{true, false}
use Prim.Native.Nat.{ℕ, ◌+◌, ◌≤◌, ◌<◌}
use native.Mathlib.Omega.{arith}
use borrow.Author.Tests.{le-leb, leb-true}
use lib.Dec.{leb}
use lib.IntN.{ℤ, pos, negsuc, neg_ℤ}
use lib.Signed.{le_z}
use Rattle.laws.specs.Choose.{both_bad, both_later, both_ok, both_parts}
use Rattle.laws.specs.Whole.{over, under, self, count, neg}
use Rattle.laws.specs.Order.{is_le_z, not_le_z, le_yes}
use Rattle.rules.specs.Numbers.{in_range, in_range_z}

-- a count in low..high
pub in_range_holds : (low high n : ℕ) → in_range low high n ≡ true → (low ≤ n) × (n ≤ high)
unfolding in_range
in_range_holds low high n e = let p = both_parts _ _ e in (leb-true _ _ p.0, leb-true _ _ p.1)

-- ---- a whole number in -low..high

module _ (z : ℤ) (low high : ℕ) where
  pub range_below : low < under z → false ≡ in_range_z (neg_ℤ (pos low)) (pos high) z
  unfolding in_range_z
  range_below h = both_bad _ _ (not_le_z (neg_ℤ (pos low)) z (neg (pos low) (count low)) (self z) (go z h))
    where
      go : (z : ℤ) → low < under z → over z + low < 0 + under z
      go (pos n) h = omega arith
      go (negsuc n) h = omega arith

  pub range_above : under z ≤ low → leb (over z) high ≡ in_range_z (neg_ℤ (pos low)) (pos high) z
  unfolding in_range_z
  range_above h = both_ok _ _ _ (is_le_z (neg_ℤ (pos low)) z (neg (pos low) (count low)) (self z) (omega arith)) (go z)
    where
      go : (z : ℤ) → leb (over z) high ≡ le_z z (pos high)
      go (pos n) = refl
      go (negsuc n) = le-leb 0 high (omega arith)

  pub range_parts : in_range_z (neg_ℤ (pos low)) (pos high) z ≡ true → (under z ≤ low) × (over z ≤ high)
  unfolding in_range_z
  range_parts e =
      let p = both_parts _ _ e in
      (go_low z (le_yes _ _ (neg (pos low) (count low)) (self z) p.0), go_high z (le_yes _ _ (self z) (count high) p.1))
    where
      go_low : (z : ℤ) → 0 + under z ≤ over z + low → under z ≤ low
      go_low (pos n) h = omega arith
      go_low (negsuc n) h = omega arith

      go_high : (z : ℤ) → over z + 0 ≤ high + under z → over z ≤ high
      go_high (pos n) h = omega arith
      go_high (negsuc n) h = omega arith

  pub range_over : high < over z → false ≡ in_range_z (neg_ℤ (pos low)) (pos high) z
  unfolding in_range_z
  range_over h = both_later _ _ (not_le_z z (pos high) (self z) (count high) (go z h))
    where
      go : (z : ℤ) → high < over z → high + under z < over z + 0
      go (pos n) h = omega arith
      go (negsuc n) h = absurd (omega arith)
