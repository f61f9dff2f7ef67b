-- Windows whose lines 0 and 3 agree within a pair's reach have the same width: what lies beyond is not looked at.
-- Assumes nothing.
use mathlib.Core.Path.{◌≡◌, refl, ap}
use mathlib.Core.Bool.{Bool, true, false}
use mathlib.Core.List.{List}
use Prim.Native.Nat.{ℕ, zero, suc, ◌+◌, ◌*◌, ◌/◌, ◌%◌, ◌≤◌, ◌<◌}
use native.Mathlib.Omega.{arith}
use borrow.Author.Tests.{leb-true, leb-false, eqb-false}
use lib.Dec.{eqb, ltb, leb}
use Rattle.laws.specs.Choose.{pick, both}
use Rattle.rules.specs.declared.edge.Line.{Line}
use Rattle.rules.specs.Lengths.{most_before, most_after, reach_before, reach_after}
use Rattle.rules.specs.Width.{p_of, q_of, dm2_of, d1_of, dm1_of, d0_of, ramp_before_of, ramp_after_of}
use Rattle.rules.specs.Width.{steep_of, at_distance, fails_of, from_of, far_of, wide_of, grade_of, width_of}
use Rattle.width.specs.Ends.{Distance}
use Rattle.lengths.proofs.Lengths.{SideFacts, After, one, three, four, six, eight, pair_facts}
use Rattle.width.proofs.Stands.{ramp_near, first_distance, next_distance}

-- lines 0 and 3 agree on b samples before the edge and a after it
pub record Agree (b a : ℕ) (ls ms : List Line) : Type 0 where
  pub before0 : (k : ℕ) → k < b → p_of ls 0 k ≡ p_of ms 0 k
  pub before3 : (k : ℕ) → k < b → p_of ls 3 k ≡ p_of ms 3 k
  pub after0 : (k : ℕ) → k < a → q_of ls 0 k ≡ q_of ms 0 k
  pub after3 : (k : ℕ) → k < a → q_of ls 3 k ≡ q_of ms 3 k

-- four lines that agree within the reach
pub agree_four : {b a : ℕ} {ls ms : List Line} → ((j k : ℕ) → j < 4 → k < b → p_of ls j k ≡ p_of ms j k) → ((j k : ℕ) → j < 4 → k < a → q_of ls j k ≡ q_of ms j k) → Agree b a ls ms
agree_four f g = record {
  before0 = λ k. f 0 k (omega arith);
  before3 = λ k. f 3 k (omega arith);
  after0 = λ k. g 0 k (omega arith);
  after3 = λ k. g 3 k (omega arith);
}

-- the first three samples of a side, which every reach has
first_three : {r : ℕ} {f h : ℕ → ℕ} → 3 ≤ r → ((k : ℕ) → k < r → f k ≡ h k) → (f 0 ≡ h 0) × (f 1 ≡ h 1) × (f 2 ≡ h 2)
first_three l e = (e 0 (omega arith), e 1 (omega arith), e 2 (omega arith))

-- ---- choices agree where what they choose from agrees
pick_agree : (t : Bool) (u : ℕ) {v y : ℕ} → (t ≡ false → v ≡ y) → pick t u v ≡ pick t u y
unfolding pick
pick_agree true u h = refl
pick_agree false u h = h refl

both_agree : (t : Bool) {x y : Bool} → (t ≡ true → x ≡ y) → both t x ≡ both t y
unfolding both
both_agree true h = h refl
both_agree false h = refl

-- ---- the most samples after the edge, once it is not 1, and not 3
not_one : {p : ℕ} → After p → (p ≡ 1 → ⊥) → 3 ≤ p
not_one one h = absurd (h refl)
not_one three h = omega arith
not_one four h = omega arith
not_one six h = omega arith
not_one eight h = omega arith

not_three : {p : ℕ} → After p → (p ≡ 1 → ⊥) → (p ≡ 3 → ⊥) → (4 ≤ p) × (p % 2 ≡ 0)
not_three one h k = absurd (h refl)
not_three three h k = absurd (k refl)
not_three four h k = (omega arith, refl)
not_three six h k = (omega arith, refl)
not_three eight h k = (omega arith, refl)

module _ {n p b a : ℕ} (fb : SideFacts n b) (fa : SideFacts p a) (is : After p) {ls ms : List Line} (g : Agree b a ls ms) where
  p0 : (p_of ls 0 0 ≡ p_of ms 0 0) × (p_of ls 0 1 ≡ p_of ms 0 1) × (p_of ls 0 2 ≡ p_of ms 0 2)
  p0 = first_three fb.reach_3 g.before0

  p3 : (p_of ls 3 0 ≡ p_of ms 3 0) × (p_of ls 3 1 ≡ p_of ms 3 1) × (p_of ls 3 2 ≡ p_of ms 3 2)
  p3 = first_three fb.reach_3 g.before3

  q0 : (q_of ls 0 0 ≡ q_of ms 0 0) × (q_of ls 0 1 ≡ q_of ms 0 1) × (q_of ls 0 2 ≡ q_of ms 0 2)
  q0 = first_three fa.reach_3 g.after0

  q3 : (q_of ls 3 0 ≡ q_of ms 3 0) × (q_of ls 3 1 ≡ q_of ms 3 1) × (q_of ls 3 2 ≡ q_of ms 3 2)
  q3 = first_three fa.reach_3 g.after3

  -- ---- bends
  dm2_agree : dm2_of ls ≡ dm2_of ms
  dm2_agree = let x = p0 in let y = p3 in cc

  d1_agree : d1_of ls ≡ d1_of ms
  d1_agree = let x = q0 in let y = q3 in cc

  dm1_agree : dm1_of ls ≡ dm1_of ms
  dm1_agree = let x = p0 in let y = p3 in let z = q0 in let w = q3 in cc

  d0_agree : d0_of ls ≡ d0_of ms
  d0_agree = let x = p0 in let y = p3 in let z = q0 in let w = q3 in cc

  -- ---- ramps
  ramp_before_holds : (k : ℕ) → k < b → ramp_before_of ls k ≡ ramp_before_of ms k
  ramp_before_holds k h = let x = p0 in let y = p3 in cc (g.before0 k h, g.before3 k h)

  ramp_after_holds : (k : ℕ) → k < a → ramp_after_of ls k ≡ ramp_after_of ms k
  ramp_after_holds k h = let x = q0 in let y = q3 in cc (g.after0 k h, g.after3 k h)

  steep_agree : (k limit : ℕ) → k ≤ 7 → k ≤ p → steep_of ls n k limit ≡ steep_of ms n k limit
  unfolding steep_of
  steep_agree k limit h m =
      cc (ramp_after_holds k (omega arith), both_agree (leb k n) (λ t. ap (λ (x : ℕ). ltb limit x) (ramp_before_holds k (omega (arith, leb-true k n t)))))

  -- ---- the tests at the distances
  module _ (q side bends : ℕ) where
    fails_agree : (d : ℕ) → Distance d → d ≤ p → fails_of ls n q side bends d ≡ fails_of ms n q side bends d
    unfolding fails_of
    fails_agree d h m = let r = ramp_near h in cc (steep_agree (at_distance 4 6 7 d) (side * d / 16) r.1 (omega arith))

    from_agree : (tests d : ℕ) → Distance d → d ≤ p → p % 2 ≡ 0 → from_of ls n p q side bends tests d ≡ from_of ms n p q side bends tests d
    unfolding from_of
    from_agree zero d h m e = refl
    from_agree (suc tests) d h m e =
        rw (fails_agree d h m)
        (pick_agree _ _ (λ t. pick_agree (leb p d) d (λ s. let l = leb-false p d s in from_agree tests (d + 2) (next_distance h l (omega arith)) (omega arith) e)))

    far_agree : (p ≡ 1 → ⊥) → (p ≡ 3 → ⊥) → far_of ls n p q side bends ≡ far_of ms n p q side bends
    unfolding far_of
    far_agree u v = let e = not_three is u v in from_agree 3 4 first_distance e.0 e.1

    -- ---- the first tests
    wide_agree : (dm2 d1 : ℕ) → (p ≡ 1 → ⊥) → wide_of ls n p q side dm2 d1 bends ≡ wide_of ms n p q side dm2 d1 bends
    unfolding wide_of
    wide_agree dm2 d1 u =
        rw (steep_agree 3 (3 * side / 16) (omega arith) (not_one is u))
        (pick_agree _ _ (λ t. pick_agree (eqb p 3) 3 (λ s. far_agree u (eqb-false p 3 s))))

    grade_agree : (dm2 d1 : ℕ) → grade_of ls n p q side dm2 d1 bends ≡ grade_of ms n p q side dm2 d1 bends
    unfolding grade_of
    grade_agree dm2 d1 =
        pick_agree _ _ (λ r. pick_agree _ _ (λ s. pick_agree (eqb p 1) 1 (λ t. pick_agree _ _ (λ u. wide_agree dm2 d1 (eqb-false p 1 t)))))

  agree_width : (q side : ℕ) → width_of ls n p q side ≡ width_of ms n p q side
  unfolding width_of
  agree_width q side = rw (dm2_agree, d1_agree, dm1_agree, d0_agree) (grade_agree q side (dm1_of ms + d0_of ms) (dm2_of ms) (d1_of ms))

-- of every pair
pub width_agree : (pair : ℕ) → pair < 8 → {ls ms : List Line} → Agree (reach_before pair) (reach_after pair) ls ms → (q side : ℕ)
    → width_of ls (most_before pair) (most_after pair) q side ≡ width_of ms (most_before pair) (most_after pair) q side
width_agree pair h g q side = let f = pair_facts pair h in agree_width f.before f.after f.after_is g q side
