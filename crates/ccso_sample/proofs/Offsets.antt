-- The place of an offset, and a sample with an offset, in counts.
-- Assumes nothing.
use mathlib.Core.Path.{◌≡◌, sym, ap, ◌∙◌}
use mathlib.Core.Bool.{true}
use Prim.Native.Nat.{ℕ, ◌+◌, ◌-◌, ◌*◌, ◌/◌, ◌^◌, ◌≤◌, ◌<◌, min}
use native.Mathlib.Nat.{div-le_self, div-lt_iff_lt-mul, mul-le-mul}
use native.Mathlib.Omega.{arith}
use lib.Pow.{pow-add, pow_pos}
use borrow.Author.Rules.{rules}
use mir.Syntax.{w8, w32, w64}
use mir.Val.{Fits, to_z, of_z}
use mathlib.Core.List.{List}
use lib.ListN.{get_or}
use lib.IntN.{ℤ, pos, ◌*ℤ◌}
use Rattle.laws.specs.Whole.{Is, count, limit_is}
use Rattle.laws.proofs.Operations.{plus, times}
use Rattle.rules.specs.declared.settings.Ccso.{Ccso}
use Rattle.rules.specs.Numbers.{depth_ok, top_of}
use Rattle.rules.proofs.Depths.{by_depth}
use Rattle.rules.specs.Ccso.{offset_place, offset_sample, offset_count, place_at}
use Rattle.ccso_sample.specs.declared.counts.Counts.{Counts}
use Rattle.ccso_sample.specs.Ranges.{SignedWithin, Ranges, Raised}
use Rattle.ccso_sample.specs.Lists.{Small, moved_at}
use Rattle.ccso_sample.proofs.Signed.{byte, byte_kept, byte_word, byte_within, byte_is}

-- the largest sample of any depth
pub top_most : (d : ℕ) → depth_ok d ≡ true → top_of d ≤ 4095
unfolding top_of
top_most d ok = by_depth (λ n. 2 ^ n - 1 ≤ 4095) (omega arith) (omega arith) (omega arith) d ok

-- a place is no wrapped sum
module _ (c n class0 class1 : ℕ) (small : c < 65536) where
  band_fits : 16 * (c / 2 ^ n) ≤ 1048560
  band_fits = omega (arith, div-le_self c (2 ^ n))

  pub band16_fits : Fits w64 (16 * (c / 2 ^ n))
  band16_fits = record { fits = omega (arith, band_fits) }

  pub class0_fits : class0 ≤ 3 → Fits w64 (16 * (c / 2 ^ n) + 4 * class0)
  class0_fits h = record { fits = omega (arith, band_fits) }

  pub class1_fits : class0 ≤ 3 → class1 ≤ 3 → Fits w64 (16 * (c / 2 ^ n) + 4 * class0 + class1)
  class1_fits h l = record { fits = omega (arith, band_fits) }

-- the place of an offset in use
pub place_below : {s : Ccso} → Ranges s → (c class0 class1 : ℕ) → c ≤ top_of s.depth → class0 ≤ 3 → class1 ≤ 3 → offset_place s c class0 class1 < offset_count s
unfolding offset_place offset_count top_of
place_below {s} a c class0 class1 h p q = omega (arith, band)
  where
    split : 2 ^ s.depth ≡ 2 ^ s.bandlog * 2 ^ (s.depth - s.bandlog)
    split = ap (λ (n : ℕ). 2 ^ n) (omega arith) ∙ pow-add 2 s.bandlog (s.depth - s.bandlog)

    band : c / 2 ^ (s.depth - s.bandlog) < 2 ^ s.bandlog
    band = (div-lt_iff_lt-mul (pow_pos (s.depth - s.bandlog))).1 (omega (arith, split, pow_pos s.depth))

-- a sample v with an offset that was raised to r
module _ {s : Ccso} {k : Counts} (up : Raised s k) (v r : ℕ) (z : ℤ) (h : Is z r 10) (small : SignedWithin z 10) where
  part_most : r * s.scale ≤ 20 * 16
  part_most = let l : r ≤ 20 = omega arith in mul-le-mul l up.ranges.scale_most

  pub part_fits : Fits w32 (r * s.scale)
  part_fits = record { fits = omega (arith, part_most) }

  pub sum_fits : v < 65536 → Fits w32 (v + r * s.scale)
  sum_fits l = record { fits = omega (arith, part_most) }

  moved_is : offset_sample s v z ≡ min (v + r * s.scale - (0 + 10 * s.scale)) (top_of s.depth)
  unfolding offset_sample
  moved_is = limit_is (top_of s.depth) _ (plus (pos v) (z *ℤ pos s.scale) (count v) (times z s.scale h))

  pub sample_is : (m w : ℕ) → m ≡ v + r * s.scale - 10 * s.scale → w ≡ min m k.top → w ≡ offset_sample s v z
  sample_is m w e f = f ∙ recount ∙ sym moved_is
    where
      recount : min m k.top ≡ min (v + r * s.scale - (0 + 10 * s.scale)) (top_of s.depth)
      recount = omega (arith, up.top)

pub ruleset bands = (rules, band16_fits, class0_fits, class1_fits)

pub ruleset moves = (rules, byte_word, byte_within, byte_is, part_fits, sum_fits, sample_is)

-- the offset that the code read at a place in use, and the sample with it
module _ {s : Ccso} (offsets : List ℤ) (small : Small s offsets) (p : ℕ) (h : p < offset_count s) where
  pub offset_kept : SignedWithin (to_z w8 (of_z w8 (get_or offsets p (pos 0)))) 10
  offset_kept = byte_kept _ (small.each p h)

  pub moved : (luma : List ℕ) (x y v r : ℕ) → p ≡ place_at s luma x y → r ≡ offset_sample s v (to_z w8 (of_z w8 (get_or offsets p (pos 0)))) → r ≡ moved_at s luma offsets x y v
  unfolding moved_at
  moved luma x y v r e g = rw (← e) (g ∙ ap (offset_sample s v) (byte _ (small.each p h)))

pub ruleset moved_samples = (rules, offset_kept, moved)
