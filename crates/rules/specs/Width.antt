-- Document 01, "Width choice": how many samples after the edge are filtered.
-- Assumes nothing.
use Rattle.std.specs.Prelude.{ℕ, zero, suc, ◌+◌, ◌-◌, ◌*◌, ◌/◌, Bool, true, false, List, [], ◌∷◌, get_or, eqb, ltb, leb, ℤ, pos, nat_abs, ◌+ℤ◌, ◌-ℤ◌, ◌*ℤ◌}
use Rattle.laws.specs.Choose.{pick, either, both}
use Rattle.rules.specs.declared.edge.Line.{Line}

-- ---- "p0..p8 stand before the edge, q0..q8 after it, as in Line; only lines 0 and 3 decide."

abbrev pub blank : Line
blank = record { p = []; q = [] }

-- p_k and q_k of line j
abbrev pub p_of : List Line → ℕ → ℕ → ℕ
p_of ls j k = get_or (get_or ls j blank).p k 0

abbrev pub q_of : List Line → ℕ → ℕ → ℕ
q_of ls j k = get_or (get_or ls j blank).q k 0

-- "avg(a,b) = floor((a+b+1)/2)"
abbrev pub avg : ℕ → ℕ → ℕ
avg a b = (a + b + 1) / 2

-- |a - 2b + c|
unfoldable pub bend_of : ℕ → ℕ → ℕ → ℕ
bend_of a b c = nat_abs (pos a -ℤ pos (2 * b) +ℤ pos c)

-- "over the two lines of: dm2 = |p2-2p1+p0|, d1 = |q0-2q1+q2|, dm1 = |p1-2p0+q0|, d0 = |p0-2q0+q1|"
abbrev pub dm2_of : List Line → ℕ
dm2_of ls = avg (bend_of (p_of ls 0 2) (p_of ls 0 1) (p_of ls 0 0)) (bend_of (p_of ls 3 2) (p_of ls 3 1) (p_of ls 3 0))

abbrev pub d1_of : List Line → ℕ
d1_of ls = avg (bend_of (q_of ls 0 0) (q_of ls 0 1) (q_of ls 0 2)) (bend_of (q_of ls 3 0) (q_of ls 3 1) (q_of ls 3 2))

abbrev pub dm1_of : List Line → ℕ
dm1_of ls = avg (bend_of (p_of ls 0 1) (p_of ls 0 0) (q_of ls 0 0)) (bend_of (p_of ls 3 1) (p_of ls 3 0) (q_of ls 3 0))

abbrev pub d0_of : List Line → ℕ
d0_of ls = avg (bend_of (p_of ls 0 0) (q_of ls 0 0) (q_of ls 0 1)) (bend_of (p_of ls 3 0) (q_of ls 3 0) (q_of ls 3 1))

-- ---- "ramp(k) = avg of |(a0-ak) - k(a0-a1)|. It is tested after the edge always, before it only if N >= k."

unfoldable pub slope_of : ℕ → ℕ → ℕ → ℕ → ℕ
slope_of k a0 a1 ak = nat_abs ((pos a0 -ℤ pos ak) -ℤ pos k *ℤ (pos a0 -ℤ pos a1))

abbrev pub ramp_before_of : List Line → ℕ → ℕ
ramp_before_of ls k = avg (slope_of k (p_of ls 0 0) (p_of ls 0 1) (p_of ls 0 k)) (slope_of k (p_of ls 3 0) (p_of ls 3 1) (p_of ls 3 k))

abbrev pub ramp_after_of : List Line → ℕ → ℕ
ramp_after_of ls k = avg (slope_of k (q_of ls 0 0) (q_of ls 0 1) (q_of ls 0 k)) (slope_of k (q_of ls 3 0) (q_of ls 3 1) (q_of ls 3 k))

-- a ramp with k is over the limit; n is N
unfoldable pub steep_of : List Line → ℕ → ℕ → ℕ → Bool
steep_of ls n k limit = either (ltb limit (ramp_after_of ls k)) (both (leb k n) (ltb limit (ramp_before_of ls k)))

-- ---- "The tests at distances 4, 6 and 8 stop at the first failure"; g stands for dm1+d0

-- what belongs to the distances 4, 6 and 8
unfoldable pub at_distance : ℕ → ℕ → ℕ → ℕ → ℕ
at_distance a b c d = get_or (a ∷ b ∷ c ∷ []) ((d - 4) / 2) 0

-- "16(dm1+d0) > q·(45, 40, 32), or a ramp > floor(side·distance/16), with k = 4, 6, 7"
unfoldable pub fails_of : List Line → ℕ → ℕ → ℕ → ℕ → ℕ → Bool
fails_of ls n q side g d =
    either (ltb (q * at_distance 45 40 32 d) (16 * g)) (steep_of ls n (at_distance 4 6 7 d) (side * d / 16))

-- so many tests from the distance d: "Failure gives 3, 4, 6. Passing with P <= distance gives the distance."
unfoldable pub from_of : List Line → ℕ → ℕ → ℕ → ℕ → ℕ → ℕ → ℕ → ℕ
from_of ls n p q side g zero d = 8
from_of ls n p q side g (suc tests) d =
    pick (fails_of ls n q side g d) (at_distance 3 4 6 d)
    (pick (leb p d) d
    (from_of ls n p q side g tests (d + 2)))

unfoldable pub far_of : List Line → ℕ → ℕ → ℕ → ℕ → ℕ → ℕ
far_of ls n p q side g = from_of ls n p q side g 3 4

-- ---- the choice; e and f stand for dm2 and d1, n and p for "N and P, the most samples before and after"

-- "dm2 or d1 > floor(side/8), or dm1+d0 > 3q, or a ramp with k = 3 > floor(3·side/16): 2. P = 3: 3."
unfoldable pub wide_of : List Line → ℕ → ℕ → ℕ → ℕ → ℕ → ℕ → ℕ → ℕ
wide_of ls n p q side e f g =
    pick (either (ltb (side / 8) e) (either (ltb (side / 8) f) (either (ltb (3 * q) g) (steep_of ls n 3 (3 * side / 16))))) 2
    (pick (eqb p 3) 3
    (far_of ls n p q side g))

-- "q or side 0: 0. dm2 or d1 > side: 0. P = 1: 1. dm2 or d1 > floor(side/4), or dm1+d0 > 4q: 1."
unfoldable pub grade_of : List Line → ℕ → ℕ → ℕ → ℕ → ℕ → ℕ → ℕ → ℕ
grade_of ls n p q side e f g =
    pick (either (eqb q 0) (eqb side 0)) 0
    (pick (either (ltb side e) (ltb side f)) 0
    (pick (eqb p 1) 1
    (pick (either (ltb (side / 4) e) (either (ltb (side / 4) f) (ltb (4 * q) g))) 1
    (wide_of ls n p q side e f g))))

unfoldable pub width_of : List Line → ℕ → ℕ → ℕ → ℕ → ℕ
width_of ls n p q side = grade_of ls n p q side (dm2_of ls) (d1_of ls) (dm1_of ls + d0_of ls)
