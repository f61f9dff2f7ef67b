-- Demand 3 is a law of the taps: each W lies near 256/(2s+1), within e.
-- Assumes nothing.
use Rattle.std.proofs.Common.{◌≡◌, ℕ, suc, ◌+◌, ◌-◌, ◌*◌, ◌/◌, ◌<◌, ◌≤◌, min, ℤ, pos, negsuc, ◌∙◌, mul_assoc, mul_comm, mul-le-mul_left, mul-zero, mul-add, mul_left_comm, arith, leb→le}
use native.Mathlib.Decide.{dec_le}
use Rattle.laws.specs.Whole.{Is, self, count, limit_is}
use Rattle.laws.proofs.Operations.{minus, plus, times}
use Rattle.laws.specs.Table.{at}
use Rattle.rules.specs.Taps.{weights, weight_of, before, after}
use Rattle.taps.proofs.Signs.{before_count, after_count}
use Rattle.taps.specs.Weights.{near_unit}
use Rattle.rules.specs.Ramp.{apart, error_of, unit, ramp_before, ramp_after, Near}

-- each W times 2s+1 is within e of 256: one computed test
pub weights_near : (s : ℕ) → 1 ≤ s → s ≤ 8 → apart (weight_of s * (2 * s + 1)) 256 ≤ error_of s
unfolding near_unit
weights_near s l h =
    let q : s - 1 + 1 ≡ s = omega arith in
    let t : s - 1 < 8 = omega arith in
    rw q at (leb→le (apart (weight_of s * (2 * (s - 1 + 1) + 1)) 256) (error_of (s - 1 + 1)) (at near_unit weights tt (s - 1) t))

-- ---- an inequality times n, and a limit at the top
apart_min : (t a b c : ℕ) → a ≤ b + c → b ≤ a + c → apart (min a t) (min b t) ≤ c
apart_min t a b c h k = omega arith

min_times : (n y t : ℕ) → n * min y t ≡ min (n * y) (n * t)
min_times n y t = go (dec_le y t)
  where
    go : Dec (y ≤ t) → n * min y t ≡ min (n * y) (n * t)
    go (yes h) = let e : min y t ≡ y = omega arith in rw e (omega (arith, mul-le-mul_left n h))
    go (no h) = let e : min y t ≡ t = omega arith in let l : t ≤ y = omega arith in rw e (omega (arith, mul-le-mul_left n l))

-- ---- y is x moved by g/2048, rounded; n times that, where n·g is 256·p within e·p
module _ (n x y g p e : ℕ) (most : n * g ≤ 256 * p + e * p) (least : 256 * p ≤ n * g + e * p) where
  up_most : 2048 * y ≤ 2048 * x + g + 1024 → 2048 * (n * y) ≤ 2048 * (n * x) + 256 * p + (1024 * n + e * p)
  up_most h = omega (arith, simp mul-add at (mul-le-mul_left n h), mul_left_comm n 2048 y, mul_left_comm n 2048 x)

  up_least : 2048 * x + g ≤ 2048 * y + 1024 → 2048 * (n * x) + 256 * p ≤ 2048 * (n * y) + (1024 * n + e * p)
  up_least h = omega (arith, simp mul-add at (mul-le-mul_left n h), mul_left_comm n 2048 y, mul_left_comm n 2048 x)

  down_most : 2048 * y + g ≤ 2048 * x + 1024 → 2048 * (n * y) ≤ 2048 * (n * x) - 256 * p + (1024 * n + e * p)
  down_most h = omega (arith, simp mul-add at (mul-le-mul_left n h), mul_left_comm n 2048 y, mul_left_comm n 2048 x)

  down_least : 2048 * x ≤ 2048 * y + g + 1024 → 2048 * (n * x) - 256 * p ≤ 2048 * (n * y) + (1024 * n + e * p)
  down_least h = omega (arith, simp mul-add at (mul-le-mul_left n h), mul_left_comm n 2048 y, mul_left_comm n 2048 x)

-- a sample that moves up, and one that moves down
module _ (n x g p e top r : ℕ) (most : n * g ≤ 256 * p + e * p) (least : 256 * p ≤ n * g + e * p) (r₀ : 1023 ≤ r) (r₁ : r ≤ 1024) where
  up : apart (2048 * n * min ((2048 * x + r + g) / 2048) top) (min (2048 * n * x + 256 * p) (2048 * n * top)) ≤ 1024 * n + e * p
  up =
      let y = (2048 * x + r + g) / 2048 in
      rw (min_times (2048 * n) y top, mul_assoc 2048 n y, mul_assoc 2048 n x)
      (apart_min (2048 * n * top) (2048 * (n * y)) (2048 * (n * x) + 256 * p) (1024 * n + e * p)
      (up_most n x y g p e most least (omega arith)) (up_least n x y g p e most least (omega arith)))

  down : apart (2048 * n * min ((2048 * x + r - g) / 2048) top) (min (2048 * n * x - 256 * p) (2048 * n * top)) ≤ 1024 * n + e * p
  down =
      let y = (2048 * x + r - g) / 2048 in
      rw (min_times (2048 * n) y top, mul_assoc 2048 n y, mul_assoc 2048 n x)
      (apart_min (2048 * n * top) (2048 * (n * y)) (2048 * (n * x) - 256 * p) (1024 * n + e * p)
      (go (dec_le g (2048 * x + r))) (down_least n x y g p e most least (omega arith)))
    where
      go : Dec (g ≤ 2048 * x + r) → 2048 * (n * ((2048 * x + r - g) / 2048)) ≤ 2048 * (n * x) - 256 * p + (1024 * n + e * p)
      go (yes h) = down_most n x ((2048 * x + r - g) / 2048) g p e most least (omega arith)
      go (no h) = let z : (2048 * x + r - g) / 2048 ≡ 0 = omega arith in rw (z, mul-zero) (omega arith)

-- n·(m·W·k) is 256·(m·k), within e·(m·k)
module _ (n w e m k : ℕ) where
  sorted : n * (m * (w * k)) ≡ m * k * (w * n)
  sorted = simp (mul_assoc, mul_comm, mul_left_comm)

  near_most : w * n ≤ 256 + e → n * (m * (w * k)) ≤ 256 * (m * k) + e * (m * k)
  near_most h = omega (arith, sorted, simp mul-add at (mul-le-mul_left (m * k) h), mul_comm e (m * k))

  near_least : 256 ≤ w * n + e → 256 * (m * k) ≤ n * (m * (w * k)) + e * (m * k)
  near_least h = omega (arith, sorted, simp mul-add at (mul-le-mul_left (m * k) h), mul_comm e (m * k))

module _ (top x s i : ℕ) (h : i < s) (k : s ≤ 8) where
  w_near : apart (weight_of s * (2 * s + 1)) 256 ≤ error_of s
  w_near = weights_near s (omega arith) k

  goes_up : (m r : ℕ) → 1023 ≤ r → r ≤ 1024 → apart (unit s * min ((2048 * x + r + m * (weight_of s * (s - i))) / 2048) top) (min (unit s * x + 256 * (m * (s - i))) (unit s * top)) ≤ 1024 * (2 * s + 1) + error_of s * (m * (s - i))
  goes_up m r a b =
      up (2 * s + 1) x (m * (weight_of s * (s - i))) (m * (s - i)) (error_of s) top r
      (near_most (2 * s + 1) (weight_of s) (error_of s) m (s - i) (omega (arith, w_near)))
      (near_least (2 * s + 1) (weight_of s) (error_of s) m (s - i) (omega (arith, w_near)))
      a b

  goes_down : (m r : ℕ) → 1023 ≤ r → r ≤ 1024 → apart (unit s * min ((2048 * x + r - m * (weight_of s * (s - i))) / 2048) top) (min (unit s * x - 256 * (m * (s - i))) (unit s * top)) ≤ 1024 * (2 * s + 1) + error_of s * (m * (s - i))
  goes_down m r a b =
      down (2 * s + 1) x (m * (weight_of s * (s - i))) (m * (s - i)) (error_of s) top r
      (near_most (2 * s + 1) (weight_of s) (error_of s) m (s - i) (omega (arith, w_near)))
      (near_least (2 * s + 1) (weight_of s) (error_of s) m (s - i) (omega (arith, w_near)))
      a b

  -- the ramps as counts
  ramp_up : (d : ℤ) {u v : ℕ} → Is d u v → ramp_before top x d s i ≡ min (unit s * x + 256 * (u * (s - i)) - 256 * (v * (s - i))) (unit s * top)
  ramp_up d {u} {v} l =
      limit_is (unit s * top) _ (plus _ _ (count (unit s * x)) (times d (256 * (s - i)) l)) ∙ omega (arith, mul_left_comm u 256 (s - i), mul_left_comm v 256 (s - i))

  ramp_down : (d : ℤ) {u v : ℕ} → Is d u v → ramp_after top x d s i ≡ min (unit s * x + 256 * (v * (s - i)) - 256 * (u * (s - i))) (unit s * top)
  ramp_down d {u} {v} l =
      limit_is (unit s * top) _ (minus _ _ (count (unit s * x)) (times d (256 * (s - i)) l)) ∙ omega (arith, mul_left_comm u 256 (s - i), mul_left_comm v 256 (s - i))

  by : (y r : ℕ) {y' r' b : ℕ} → apart (unit s * y) r ≤ b → y' ≡ y → r' ≡ r → apart (unit s * y') r' ≤ b
  by y r l p q = rw (p, q) l

  pub ramp_before_holds : (d : ℤ) → Near (before top x d s i) (ramp_before top x d s i) d s i
  ramp_before_holds (pos m) =
      by _ _ (goes_up m 1024 (omega arith) (omega arith)) (before_count top x s i (pos m) (self _) ∙ omega arith) (ramp_up (pos m) (self _) ∙ omega arith)
  ramp_before_holds (negsuc m) =
      by _ _ (goes_down (suc m) 1024 (omega arith) (omega arith)) (before_count top x s i (negsuc m) (self _) ∙ omega arith) (ramp_up (negsuc m) (self _) ∙ omega arith)

  pub ramp_after_holds : (d : ℤ) → Near (after top x d s i) (ramp_after top x d s i) d s i
  ramp_after_holds (pos m) =
      by _ _ (goes_down m 1023 (omega arith) (omega arith)) (after_count top x s i (pos m) (self _) ∙ omega arith) (ramp_down (pos m) (self _) ∙ omega arith)
  ramp_after_holds (negsuc m) =
      by _ _ (goes_up (suc m) 1023 (omega arith) (omega arith)) (after_count top x s i (negsuc m) (self _) ∙ omega arith) (ramp_down (negsuc m) (self _) ∙ omega arith)
