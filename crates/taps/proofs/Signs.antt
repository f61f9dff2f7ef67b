-- D and the moves as counts: what the code computes, and that it is what rules' limited, before and after say.
-- Assumes nothing.
use Rattle.std.proofs.Common.{◌≡◌, ℕ, ◌+◌, ◌-◌, ◌*◌, ◌/◌, ◌<◌, ◌≤◌, min, Bool, true, false, not, ltb, ℤ, pos, ◌+ℤ◌, ◌-ℤ◌, ◌*ℤ◌, sym, refl, ap, ◌∙◌, mul_assoc, arith, ltb-false, ltb-true}
use Rattle.laws.specs.Whole.{Is, same, recast, count, neg, within, limit}
use Rattle.laws.proofs.Operations.{minus, plus, scale, times, within_is, limit_plus, limit_minus}
use Rattle.rules.specs.Taps.{weight_of, difference, rounded, before, after}
use Rattle.taps.specs.Signed.{signed, along, against, size_of, shift_of}

-- ---- a sign and a size as a difference of counts
pub plus_is : (n : ℕ) → Is (signed true n) n 0
unfolding signed
plus_is n = count n

pub minus_is : (n : ℕ) → Is (signed false n) 0 n
unfolding signed
minus_is n = neg (pos n) (count n)

-- ---- the code's sample, moved up and moved down
pub along_plus : (top x n : ℕ) → along top x true n ≡ min (x + (1024 + n) / 2048) top
unfolding along
along_plus top x n = limit_plus top x _ (plus _ _ (plus_is n) (count 1024)) ∙ omega arith

pub along_minus : (top x n : ℕ) → along top x false n ≡ min (x - (1023 + n) / 2048) top
unfolding along
along_minus top x n = limit_plus top x _ (plus _ _ (minus_is n) (count 1024)) ∙ omega arith

pub against_plus : (top x n : ℕ) → against top x true n ≡ min (x - (1024 + n) / 2048) top
unfolding against
against_plus top x n = limit_minus top x _ (plus _ _ (plus_is n) (count 1024)) ∙ omega arith

pub against_minus : (top x n : ℕ) → against top x false n ≡ min (x + (1023 + n) / 2048) top
unfolding against
against_minus top x n = limit_minus top x _ (plus _ _ (minus_is n) (count 1024)) ∙ omega arith

-- ---- D, limited
difference_is : (p1 p0 q0 q1 : ℕ) → Is (difference p1 p0 q0 q1) (4 * (3 * q0 + p1)) (4 * (3 * p0 + q1))
difference_is p1 p0 q0 q1 =
    recast (scale 4 _ (minus _ _ (scale 3 _ (minus _ _ (count q0) (count p0))) (minus _ _ (count q1) (count p1)))) (omega arith)

-- the size as the code has it, against the two parts of D
none_more : (a m : ℕ) → a + min 0 m ≡ a + 0
none_more a m = omega arith

none_less : (a m : ℕ) → 0 + a ≡ min 0 m + a
none_less a m = omega arith

above : (x y m n : ℕ) → y < x → n ≡ min (4 * (x - y + (y - x))) m → n + min (4 * y - 4 * x) m ≡ min (4 * x - 4 * y) m + 0
above x y m n h e =
    let z : 4 * y - 4 * x ≡ 0 = omega arith in
    let v : 4 * (x - y + (y - x)) ≡ 4 * x - 4 * y = omega arith in
    rw (e, z, v) (none_more (min (4 * x - 4 * y) m) m)

below : (x y m n : ℕ) → x ≤ y → n ≡ min (4 * (x - y + (y - x))) m → 0 + min (4 * y - 4 * x) m ≡ min (4 * x - 4 * y) m + n
below x y m n h e =
    let z : 4 * x - 4 * y ≡ 0 = omega arith in
    let v : 4 * (x - y + (y - x)) ≡ 4 * y - 4 * x = omega arith in
    rw (e, z, v) (none_less (min (4 * y - 4 * x) m) m)

pub limited_is : (p1 p0 q0 q1 m x y n : ℕ) → x ≡ 3 * q0 + p1 → y ≡ 3 * p0 + q1 → n ≡ min (4 * (x - y + (y - x))) m
    → signed (ltb y x) n ≡ within m (difference p1 p0 q0 q1)
limited_is p1 p0 q0 q1 m x y n ex ey e = go (ltb y x) (λ t. ltb-true y x t) (λ t. ltb-false y x t)
  where
    is : Is (difference p1 p0 q0 q1) (4 * x) (4 * y)
    is = recast (difference_is p1 p0 q0 q1) (omega arith)

    go : (b : Bool) → (b ≡ true → y < x) → (b ≡ false → x ≤ y) → signed b n ≡ within m (difference p1 p0 q0 q1)
    go true f g = same _ _ (plus_is n) (within_is m _ is) (above x y m n (f refl) e)
    go false f g = same _ _ (minus_is n) (within_is m _ is) (below x y m n (g refl) e)

-- ---- D·W[s]·(s-i), and the sample
signed_times : (b : Bool) (n c : ℕ) → signed b n *ℤ pos c ≡ signed b (n * c)
signed_times true n c = same _ _ (times _ c (plus_is n)) (plus_is (n * c)) (omega arith)
signed_times false n c = same _ _ (times _ c (minus_is n)) (minus_is (n * c)) (omega arith)

weighed : (b : Bool) (size by s i : ℕ) → by ≡ size * weight_of s → signed b (by * (s - i)) ≡ signed b size *ℤ pos (weight_of s * (s - i))
weighed b size by s i e =
    ap (λ (n : ℕ). signed b n) (ap (λ (n : ℕ). n * (s - i)) e ∙ mul_assoc size (weight_of s) (s - i)) ∙ sym (signed_times b size (weight_of s * (s - i)))

pub before_is : (top x s i size by : ℕ) (b : Bool) → by ≡ size * weight_of s → along top x b (by * (s - i)) ≡ before top x (signed b size) s i
unfolding along
before_is top x s i size by b e = ap (λ (z : ℤ). limit top (pos x +ℤ rounded z)) (weighed b size by s i e)

pub after_is : (top x s i size by : ℕ) (b : Bool) → by ≡ size * weight_of s → against top x b (by * (s - i)) ≡ after top x (signed b size) s i
unfolding against
after_is top x s i size by b e = ap (λ (z : ℤ). limit top (pos x -ℤ rounded z)) (weighed b size by s i e)

-- ---- the same for any D that is a difference of counts
module _ (top x s i : ℕ) (d : ℤ) {u v : ℕ} (h : Is d u v) where
  pub before_count : before top x d s i ≡ min ((2048 * x + 1024 + u * (weight_of s * (s - i)) - v * (weight_of s * (s - i))) / 2048) top
  before_count = limit_plus top x _ (plus _ _ (times d (weight_of s * (s - i)) h) (count 1024)) ∙ omega arith

  pub after_count : after top x d s i ≡ min ((2048 * x + 1023 + v * (weight_of s * (s - i)) - u * (weight_of s * (s - i))) / 2048) top
  after_count = limit_minus top x _ (plus _ _ (times d (weight_of s * (s - i)) h) (count 1024)) ∙ omega arith

-- ---- the code's sample: the size of the move, rounded, then up or down
pub along_shift : (top x n : ℕ) (b : Bool) {m r : ℕ} → m ≡ size_of b n → r ≡ shift_of top x b m → r ≡ along top x b n
unfolding size_of shift_of
along_shift top x n true e h = rw (along_plus top x n) (omega arith)
along_shift top x n false e h = rw (along_minus top x n) (omega arith)

pub against_shift : (top x n : ℕ) (b : Bool) {m r : ℕ} → m ≡ size_of b n → r ≡ shift_of top x (not b) m → r ≡ against top x b n
unfolding size_of shift_of
against_shift top x n true e h = rw (against_plus top x n) (omega arith)
against_shift top x n false e h = rw (against_minus top x n) (omega arith)

-- by which way a test of the sign says
pub raised : (top x m : ℕ) {b : Bool} {r : ℕ} → b ≡ true → r ≡ min (x + m) top → r ≡ shift_of top x b m
unfolding shift_of
raised top x m t h = rw t h

pub lowered : (top x m : ℕ) {b : Bool} {r : ℕ} → b ≡ false → r ≡ min (x - m) top → r ≡ shift_of top x b m
unfolding shift_of
lowered top x m t h = rw t h

pub half_up : (n : ℕ) {b : Bool} → b ≡ true → (1024 + n) / 2048 ≡ size_of b n
unfolding size_of
half_up n t = rw t

pub half_down : (n : ℕ) {b : Bool} → b ≡ false → (1023 + n) / 2048 ≡ size_of b n
unfolding size_of
half_down n t = rw t
