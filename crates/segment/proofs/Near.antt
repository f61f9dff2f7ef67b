-- What the code reads agrees with the window within the reach.
-- Assumes nothing.
use Rattle.std.proofs.Common.{◌≡◌, ℕ, ◌+◌, ◌-◌, ◌*◌, ◌<◌, ◌≤◌, min, List, [], ◌∷◌, get_or, sym, ap, ◌∙◌, mul-le-mul_right, mul_comm, add-mul, mul-le-mul_left, arith}
use Rattle.laws.specs.Loops.{each}
use Rattle.laws.proofs.Loops.{singles_at}
use Rattle.rules.specs.declared.edge.Place.{Place}
use Rattle.rules.specs.declared.edge.Line.{Line}
use Rattle.rules.specs.Lengths.{most_before, most_after, reach_before, reach_after}
use Rattle.rules.specs.Width.{blank, p_of, q_of, width_of}
use Rattle.rules.specs.Segment.{p_at, q_at, window_of, chosen_of}
use Rattle.lengths.proofs.Lengths.{pair_facts}
use Rattle.width.proofs.Agree.{agree_four, width_agree}
use Rattle.segment.specs.Fit.{Room}
use Rattle.segment.specs.Near.{near_before, near_after, near_line, near_lines, Span}
use Rattle.segment.proofs.Places.{line_in}
use Rattle.segment.proofs.Window.{window_p, window_q}

-- ---- where a line's samples lie
pub span_of : {at step line b a size : ℕ} (j at' : ℕ) → j < 4 → at' ≡ at + j * line → 3 ≤ b → 3 ≤ a → Room at step line b a size → Span at' step b a size
span_of {at} {step} {line} {b} {a} j at' h e hb ha r =
    let x = line_in j line h in
    let c : 2 ≤ a - 1 = omega arith in
    let y = mul-le-mul_right step hb in
    let z = mul-le-mul_right step c in
    let u : b - 1 + 1 ≡ b = omega arith in
    let v = ap (λ (i : ℕ). i * step) u in
    record {
      before_3 = hb;
      after_3 = ha;
      low = omega (arith, mul_comm step (b - 1), add-mul (b - 1) 1 step);
      low_3 = omega arith;
      high = omega (arith, mul_comm step (a - 1));
      high_3 = omega arith;
    }

-- ---- nine reads make a side, four lines a window
pub nine : (f : ℕ → ℕ) {x0 x1 x2 x3 x4 x5 x6 x7 x8 : ℕ} → x0 ≡ f 0 → x1 ≡ f 1 → x2 ≡ f 2 → x3 ≡ f 3 → x4 ≡ f 4 → x5 ≡ f 5 → x6 ≡ f 6 → x7 ≡ f 7 → x8 ≡ f 8
    → (x0 ∷ x1 ∷ x2 ∷ x3 ∷ x4 ∷ x5 ∷ x6 ∷ x7 ∷ x8 ∷ []) ≡ each 9 (λ k. f k ∷ [])
unfolding each
nine f e0 e1 e2 e3 e4 e5 e6 e7 e8 = cc

near_0 : (step last : ℕ) → 0 ≡ step * min 0 last
near_0 step last = let e : min 0 last ≡ 0 = omega arith in rw e (omega arith)

near_1 : (step last : ℕ) → 2 ≤ last → step ≡ step * min 1 last
near_1 step last h = let e : min 1 last ≡ 1 = omega arith in rw e (omega arith)

near_2 : (step last : ℕ) → 2 ≤ last → 2 * step ≡ step * min 2 last
near_2 step last h = let e : min 2 last ≡ 2 = omega arith in rw e (omega arith)

module _ (l : List ℕ) (at step last : ℕ) (h : 2 ≤ last) {o3 o4 o5 o6 o7 o8 : ℕ}
    (e3 : o3 ≡ step * min 3 last) (e4 : o4 ≡ step * min 4 last) (e5 : o5 ≡ step * min 5 last) (e6 : o6 ≡ step * min 6 last) (e7 : o7 ≡ step * min 7 last) (e8 : o8 ≡ step * min 8 last) where
  pub before_nine : (get_or l at 0 ∷ get_or l (at - step) 0 ∷ get_or l (at - 2 * step) 0 ∷ get_or l (at - o3) 0 ∷ get_or l (at - o4) 0 ∷ get_or l (at - o5) 0 ∷ get_or l (at - o6) 0 ∷ get_or l (at - o7) 0 ∷ get_or l (at - o8) 0 ∷ [])
      ≡ near_before l at step last
  unfolding near_before
  before_nine =
      nine (λ k. get_or l (at - step * min k last) 0)
      (ap (λ (i : ℕ). get_or l i 0) (let z = near_0 step last in omega arith))
      (ap (λ (i : ℕ). get_or l (at - i) 0) (near_1 step last h))
      (ap (λ (i : ℕ). get_or l (at - i) 0) (near_2 step last h))
      (ap (λ (i : ℕ). get_or l (at - i) 0) e3) (ap (λ (i : ℕ). get_or l (at - i) 0) e4) (ap (λ (i : ℕ). get_or l (at - i) 0) e5)
      (ap (λ (i : ℕ). get_or l (at - i) 0) e6) (ap (λ (i : ℕ). get_or l (at - i) 0) e7) (ap (λ (i : ℕ). get_or l (at - i) 0) e8)

  pub after_nine : (get_or l at 0 ∷ get_or l (at + step) 0 ∷ get_or l (at + 2 * step) 0 ∷ get_or l (at + o3) 0 ∷ get_or l (at + o4) 0 ∷ get_or l (at + o5) 0 ∷ get_or l (at + o6) 0 ∷ get_or l (at + o7) 0 ∷ get_or l (at + o8) 0 ∷ [])
      ≡ near_after l at step last
  unfolding near_after
  after_nine =
      nine (λ k. get_or l (at + step * min k last) 0)
      (ap (λ (i : ℕ). get_or l i 0) (let z = near_0 step last in omega arith))
      (ap (λ (i : ℕ). get_or l (at + i) 0) (near_1 step last h))
      (ap (λ (i : ℕ). get_or l (at + i) 0) (near_2 step last h))
      (ap (λ (i : ℕ). get_or l (at + i) 0) e3) (ap (λ (i : ℕ). get_or l (at + i) 0) e4) (ap (λ (i : ℕ). get_or l (at + i) 0) e5)
      (ap (λ (i : ℕ). get_or l (at + i) 0) e6) (ap (λ (i : ℕ). get_or l (at + i) 0) e7) (ap (λ (i : ℕ). get_or l (at + i) 0) e8)

pub four_lines : (l : List ℕ) (at step line b a : ℕ) {l0 l1 l2 l3 : Line} → l0 ≡ near_line l at step b a → l1 ≡ near_line l (at + line) step b a → l2 ≡ near_line l (at + 2 * line) step b a → l3 ≡ near_line l (at + 3 * line) step b a
    → (l0 ∷ l1 ∷ l2 ∷ l3 ∷ []) ≡ near_lines l at step line b a
unfolding near_lines each
four_lines l at step line b a {l0} {l1} e0 e1 e2 e3 =
    let f0 : l0 ≡ near_line l (at + 0 * line) step b a = e0 ∙ ap (λ (i : ℕ). near_line l i step b a) (omega arith) in
    let f1 : l1 ≡ near_line l (at + 1 * line) step b a = e1 ∙ ap (λ (i : ℕ). near_line l i step b a) (omega arith) in
    cc

-- ---- within the reach
module _ (l : List ℕ) (at step line b a : ℕ) where
  near_line_holds : (j : ℕ) → j < 4 → get_or (near_lines l at step line b a) j blank ≡ near_line l (at + j * line) step b a
  unfolding near_lines
  near_line_holds j h = singles_at (λ j. near_line l (at + j * line) step b a) blank 4 j h

  pub near_p : (j k : ℕ) → j < 4 → k < b → b ≤ 8 → p_of (near_lines l at step line b a) j k ≡ get_or l (p_at (at + j * line) step k) 0
  unfolding near_line near_before
  near_p j k hj hk h =
      let m : min k (b - 1) ≡ k = omega arith in
      ap (λ (x : Line). get_or x.p k 0) (near_line_holds j hj)
      ∙ singles_at (λ k. get_or l (at + j * line - step - step * min k (b - 1)) 0) 0 9 k (omega arith)
      ∙ ap (λ (i : ℕ). get_or l (at + j * line - step - step * i) 0) m
      ∙ ap (λ (i : ℕ). get_or l i 0) (let x = mul_comm step k in let y = add-mul k 1 step in omega arith)

  pub near_q : (j k : ℕ) → j < 4 → k < a → a ≤ 8 → q_of (near_lines l at step line b a) j k ≡ get_or l (q_at (at + j * line) step k) 0
  unfolding near_line near_after
  near_q j k hj hk h =
      let m : min k (a - 1) ≡ k = omega arith in
      ap (λ (x : Line). get_or x.q k 0) (near_line_holds j hj)
      ∙ singles_at (λ k. get_or l (at + j * line + step * min k (a - 1)) 0) 0 9 k (omega arith)
      ∙ ap (λ (i : ℕ). get_or l (at + j * line + step * i) 0) m
      ∙ ap (λ (i : ℕ). get_or l i 0) (let x = mul_comm step k in omega arith)

-- the width chosen from what was read is the window's
pub chosen_near : (e : Place) (l : List ℕ) {ls : List Line} {b a n p w : ℕ} → e.pair < 8 → b ≡ reach_before e.pair → a ≡ reach_after e.pair → ls ≡ near_lines l e.at e.step e.line b a
    → n ≡ most_before e.pair → p ≡ most_after e.pair → w ≡ width_of ls n p e.q e.side → w ≡ chosen_of e (window_of e l)
unfolding chosen_of
chosen_near e l {ls} {b} {a} {n} {p} {w} h hb ha hl hn hp hw =
    let f = pair_facts e.pair h in
    let fb = f.before in
    let fa = f.after in
    let z : ls ≡ near_lines l e.at e.step e.line (reach_before e.pair) (reach_after e.pair) = cc in
    let g : w ≡ width_of (near_lines l e.at e.step e.line (reach_before e.pair) (reach_after e.pair)) (most_before e.pair) (most_after e.pair) e.q e.side = cc in
    g
    ∙ width_agree e.pair h
    (agree_four
    (λ j k hj hk. near_p l e.at e.step e.line (reach_before e.pair) (reach_after e.pair) j k hj hk fb.reach_8 ∙ sym (window_p e l f j k hj hk))
    (λ j k hj hk. near_q l e.at e.step e.line (reach_before e.pair) (reach_after e.pair) j k hj hk fa.reach_8 ∙ sym (window_q e l f j k hj hk)))
    e.q e.side

-- k steps are at most those to the last sample
pub out_le : (step k last : ℕ) {r : ℕ} → r ≡ min k last → step * r ≤ step * last
out_le step k last e = let h : min k last ≤ last = omega arith in rw e (mul-le-mul_left step h)
