-- Laws of an index held as a gap: the whole number that it is, and its limits.
-- Assumes nothing.
use mathlib.Core.Path.{◌≡◌, sym, ◌∙◌}
use mathlib.Core.Bool.{true, false}
use Prim.Native.Nat.{ℕ, ◌+◌, ◌*◌, ◌-◌, ◌≤◌, ◌<◌, min, max}
use native.Mathlib.Omega.{arith}
use borrow.Author.Tests.{le-leb}
use lib.IntN.{ℤ, pos, negsuc}
use Rattle.laws.specs.Whole.{Is, over, under, same, self, count, between, between_is}
use Rattle.laws.proofs.Operations.{plus, differ, scale}
use Rattle.laws.specs.declared.whole.Gap.{Gap}
use Rattle.rules.specs.Numbers.{delta_ok}
use Rattle.rules.specs.Thresholds.{index_of}
use Rattle.checks.proofs.Ranges.{range_below, range_above, range_over, range_parts}
use Rattle.thresholds.specs.Index.{whole, IndexIs}

-- a gap stands for up - down
pub whole_is : (g : Gap) → Is (whole g) g.up g.down
unfolding whole
whole_is g = differ g.up g.down

-- two gaps, or a gap and a number, that are the same difference
pub whole_of : (g : Gap) (z : ℤ) {a b : ℕ} → Is z a b → g.up + b ≡ a + g.down → whole g ≡ z
whole_of g z h e = same (whole g) z (whole_is g) h e

pub whole_self : (g : Gap) (z : ℤ) → g.up ≡ over z → g.down ≡ under z → whole g ≡ z
whole_self g z u d = whole_of g z (self z) (omega arith)

-- limited to low..high
pub limits : (low high : ℕ) (g : Gap) {r : ℕ} → low ≤ high → r ≡ max low (min (g.up - g.down) high) → r ≡ between low high (whole g)
limits low high g h e = e ∙ sym (between_is low high (whole g) h (whole_is g))

pub between_low : (low high : ℕ) (z : ℤ) → low ≤ between low high z
between_low low high (pos n) = omega arith
between_low low high (negsuc n) = omega arith

pub between_high : (low high : ℕ) (z : ℤ) → low ≤ high → between low high z ≤ high
between_high low high (pos n) h = omega arith
between_high low high (negsuc n) h = omega arith

-- a delta of -128..127 in counts
pub record Small (delta : ℤ) : Type 0 where
  pub above : over delta ≤ 127
  pub below : under delta ≤ 128

pub small : (delta : ℤ) → delta_ok delta ≡ true → Small delta
unfolding delta_ok
small delta ok = let p = range_parts delta 128 127 ok in record { above = p.1; below = p.0 }

-- how the two tests of a delta come out
pub too_low : (delta : ℤ) → over delta + 128 < under delta → false ≡ delta_ok delta
unfolding delta_ok
too_low delta h = range_below delta 128 127 (omega arith)

pub too_high : (delta : ℤ) → 127 + under delta < over delta → false ≡ delta_ok delta
unfolding delta_ok
too_high delta h = range_over delta 128 127 (omega arith)

pub in_range_holds : (delta : ℤ) → under delta ≤ over delta + 128 → over delta ≤ 127 + under delta → true ≡ delta_ok delta
unfolding delta_ok
in_range_holds delta l h = sym (le-leb _ _ (high delta h)) ∙ range_above delta 128 127 (low delta l)
  where
    low : (z : ℤ) → under z ≤ over z + 128 → under z ≤ 128
    low (pos n) l = omega arith
    low (negsuc n) l = omega arith

    high : (z : ℤ) → over z ≤ 127 + under z → over z ≤ 127
    high (pos n) h = omega arith
    high (negsuc n) h = omega arith

-- qindex + 8·delta in counts
pub index_is : (qindex : ℕ) (delta : ℤ) (g : Gap) → delta_ok delta ≡ true → qindex < 65536 → g.up ≡ qindex + 8 * over delta → g.down ≡ 8 * under delta → IndexIs qindex delta g
unfolding index_of
index_is qindex delta g ok h u d =
    let s = small delta ok in
    record {
      is = whole_of g _ (plus (pos qindex) _ (count qindex) (scale 8 delta (self delta))) (omega arith);
      up_most = omega arith;
      down_most = omega arith;
    }
