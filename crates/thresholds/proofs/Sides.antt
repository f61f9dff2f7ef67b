-- Laws of the side threshold: an entry brought down to the depth, and how large that is.
-- Assumes nothing.
use mathlib.Core.Path.{◌≡◌, refl, sym, ap, ◌∙◌}
use mathlib.Core.Bool.{true}
use Prim.Native.Nat.{ℕ, ◌+◌, ◌*◌, ◌-◌, ◌/◌, ◌%◌, ◌^◌, ◌≤◌, ◌<◌}
use native.Mathlib.Nat.{zero-div}
use native.Mathlib.Omega.{arith}
use lib.IntN.{ℤ, pos, negsuc, ◌+ℤ◌, ◌-ℤ◌}
use lib.Signed.{mag}
use mir.Syntax.{w16}
use mir.Val.{to_z, of_z}
use mir.Facts.{to_z-of_z}
use Rattle.laws.specs.Choose.{pick}
use Rattle.laws.specs.Whole.{Is, over, under, self, count, between}
use Rattle.laws.proofs.Operations.{plus, minus}
use Rattle.laws.specs.declared.whole.Gap.{Gap}
use Rattle.rules.specs.Numbers.{depth_ok, shift_of, offset_of}
use Rattle.rules.specs.Thresholds.{lowered, side_of}
use Rattle.rules.proofs.Depths.{by_depth}
use Rattle.thresholds.specs.Index.{whole}
use Rattle.thresholds.proofs.Indices.{whole_is, whole_of, whole_self, between_high}
use Rattle.thresholds.proofs.SideRule.{entry, side_range, InRange}

-- the divisor 2^(13-depth): its size, its half, and what the machine's shift makes of it
pub record Unit (d : ℕ) : Type 0 where
  pub short : shift_of d < 32
  pub shifted : (1 * 2 ^ shift_of d) % 4294967296 ≡ 2 ^ shift_of d
  pub half : 2 ^ shift_of d / 2 ≡ 2 ^ (12 - d)
  pub some : 2 ≤ 2 ^ shift_of d
  pub most : 2 ^ shift_of d ≤ 32

pub units : (d : ℕ) → depth_ok d ≡ true → Unit d
unfolding shift_of
units d ok = by_depth Unit (record { short = omega arith; shifted = refl; half = refl; some = omega arith; most = omega arith }) (record { short = omega arith; shifted = refl; half = refl; some = omega arith; most = omega arith }) (record { short = omega arith; shifted = refl; half = refl; some = omega arith; most = omega arith }) d ok

pub offset_most : (d : ℕ) → depth_ok d ≡ true → offset_of d ≤ 96
unfolding offset_of pick
offset_most d ok = by_depth (λ d. offset_of d ≤ 96) (omega arith) (omega arith) (omega arith) d ok

-- the part of a whole number above 0, in counts
over_is : (z : ℤ) {a b : ℕ} → Is z a b → over z ≡ a - b
over_is (pos n) h = omega arith
over_is (negsuc n) h = omega arith

-- a number brought down, in counts
pub lowered_is : (d : ℕ) (g : Gap) (u : ℕ) → depth_ok d ≡ true → u ≡ 2 ^ shift_of d → lowered d (whole g) ≡ (g.up + u / 2 - g.down) / u
unfolding lowered
lowered_is d g u ok e =
    let h : u / 2 ≡ 2 ^ (12 - d) = ap (λ (n : ℕ). n / 2) e ∙ (units d ok).half in
    let o : over (whole g +ℤ pos (2 ^ (12 - d))) ≡ g.up + u / 2 - g.down = over_is _ (plus (whole g) (pos (2 ^ (12 - d))) (whole_is g) (count (2 ^ (12 - d)))) ∙ omega arith in
    rw (o, ← e)

pub lowered_low : (d : ℕ) (g : Gap) (u : ℕ) → depth_ok d ≡ true → u ≡ 2 ^ shift_of d → g.up + u / 2 < g.down → 0 ≡ lowered d (whole g)
lowered_low d g u ok e h =
    let n : g.up + u / 2 - g.down ≡ 0 = omega arith in
    sym (lowered_is d g u ok e ∙ ap (λ (n : ℕ). n / u) n ∙ zero-div u)

-- no entry brought down is above 839, at any depth
pub lowered_most : (d : ℕ) (z : ℤ) → depth_ok d ≡ true → over z ≤ 1678 → lowered d z ≤ 839
unfolding lowered shift_of
lowered_most d z ok h =
    by_depth (λ d. over (z +ℤ pos (2 ^ (12 - d))) / 2 ^ (13 - d) ≤ 839)
    (let s = sum 16 in omega arith)
    (let s = sum 4 in omega arith)
    (let s = sum 1 in omega arith)
    d
    ok
  where
    sum : (n : ℕ) → over (z +ℤ pos n) ≤ 1678 + n
    sum n = omega (arith, over_is (z +ℤ pos n) (plus z (pos n) (self z) (count n)))

-- an entry passed on as the machine holds it
pub short : (z : ℤ) → InRange z → to_z w16 (of_z w16 z) ≡ z
short z r = to_z-of_z {w = w16} (record { sfits = small z r })
  where
    small : (z : ℤ) → InRange z → mag z < 32768
    small (pos n) r = omega arith
    small (negsuc n) r = omega arith

-- the place of an index in the table, and the threshold of the entry there
pub place_within : (g : Gap) {k : ℕ} → k ≡ between 0 295 (whole g) → k < 296
place_within g e = omega (arith, between_high 0 295 (whole g) (omega arith))

-- "side ≤ 839": of any index
pub side_most : (d : ℕ) (i : ℤ) → depth_ok d ≡ true → side_of d i ≤ 839
unfolding side_of
side_most d i ok =
    let k = between 0 295 (i -ℤ pos (offset_of d)) in
    lowered_most d (entry k) ok (side_range k (omega (arith, between_high 0 295 (i -ℤ pos (offset_of d)) (omega arith)))).most

pub side_is : (d : ℕ) (i lifted t : Gap) {o k r : ℕ} {e : ℤ} → o ≡ offset_of d → lifted.up ≡ i.up → lifted.down ≡ i.down + o → k ≡ between 0 295 (whole lifted) → e ≡ entry k → t.up ≡ over e → t.down ≡ under e → r ≡ lowered d (whole t) → r ≡ side_of d (whole i)
unfolding side_of
side_is d i lifted t p u v q e a b s =
    let w : whole lifted ≡ whole i -ℤ pos (offset_of d) = whole_of lifted (whole i -ℤ pos (offset_of d)) (minus (whole i) (pos (offset_of d)) (whole_is i) (count (offset_of d))) (omega arith) in
    s ∙ ap (lowered d) (whole_self t _ a b ∙ e ∙ ap entry (q ∙ ap (between 0 295) w))

pub side_small : (d : ℕ) (i : ℤ) → depth_ok d ≡ true → {a : ℕ} → a ≡ side_of d i → a ≤ 65535
side_small d i ok e = omega (arith, side_most d i ok)
