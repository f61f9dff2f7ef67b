-- The window: each of its samples is one of the plane's, and planes that are equal within the reach have the same window.
-- Assumes nothing.
use Rattle.std.proofs.Common.{◌≡◌, ℕ, ◌+◌, ◌*◌, ◌<◌, List, get_or, ap, ◌∙◌, ap₂, arith}
use Rattle.laws.specs.Loops.{filled_at, filled_same}
use Rattle.rules.specs.declared.edge.Place.{Place}
use Rattle.rules.specs.declared.edge.Line.{Line}
use Rattle.rules.specs.Lengths.{reach_before, reach_after}
use Rattle.rules.specs.Width.{blank, p_of, q_of}
use Rattle.rules.specs.Segment.{p_at, q_at, zeros, zero_lines, line_of, lines_of, window_of}
use Rattle.lengths.proofs.Lengths.{PairFacts}
use Rattle.segment.specs.Fit.{AlikeInReach}

-- ---- what was read
module _ (e : Place) (l : List ℕ) (f : PairFacts e.pair) where
  window_line : (j : ℕ) → j < 4 → get_or (window_of e l) j blank ≡ line_of l (e.at + j * e.line) e.step (reach_before e.pair) (reach_after e.pair)
  unfolding window_of lines_of
  window_line j h = filled_at zero_lines (λ j. line_of l (e.at + j * e.line) e.step (reach_before e.pair) (reach_after e.pair)) blank 4 j h h

  pub window_p : (j k : ℕ) → j < 4 → k < reach_before e.pair → p_of (window_of e l) j k ≡ get_or l (p_at (e.at + j * e.line) e.step k) 0
  unfolding line_of
  window_p j k h b =
      let g = f.before in
      ap (λ (x : Line). get_or x.p k 0) (window_line j h)
      ∙ filled_at zeros (λ k. get_or l (p_at (e.at + j * e.line) e.step k) 0) 0 (reach_before e.pair) k b (omega arith)

  pub window_q : (j k : ℕ) → j < 4 → k < reach_after e.pair → q_of (window_of e l) j k ≡ get_or l (q_at (e.at + j * e.line) e.step k) 0
  unfolding line_of
  window_q j k h b =
      let g = f.after in
      ap (λ (x : Line). get_or x.q k 0) (window_line j h)
      ∙ filled_at zeros (λ k. get_or l (q_at (e.at + j * e.line) e.step k) 0) 0 (reach_after e.pair) k b (omega arith)

-- ---- planes that are equal within the reach
line_agree : (l m : List ℕ) (at step b a : ℕ)
    → ((k : ℕ) → k < b → get_or l (p_at at step k) 0 ≡ get_or m (p_at at step k) 0)
    → ((k : ℕ) → k < a → get_or l (q_at at step k) 0 ≡ get_or m (q_at at step k) 0)
    → line_of l at step b a ≡ line_of m at step b a
unfolding line_of
line_agree l m at step b a hp hq =
    ap₂ (λ (p q : List ℕ). record { p = p; q = q })
    (filled_same zeros (λ k. get_or l (p_at at step k) 0) (λ k. get_or m (p_at at step k) 0) b hp)
    (filled_same zeros (λ k. get_or l (q_at at step k) 0) (λ k. get_or m (q_at at step k) 0) a hq)

pub window_agree : (e : Place) (l m : List ℕ) → AlikeInReach e l m → window_of e l ≡ window_of e m
unfolding window_of lines_of
window_agree e l m h =
    filled_same zero_lines (λ j. line_of l (e.at + j * e.line) e.step (reach_before e.pair) (reach_after e.pair))
    (λ j. line_of m (e.at + j * e.line) e.step (reach_before e.pair) (reach_after e.pair)) 4
    (λ j b. line_agree l m (e.at + j * e.line) e.step (reach_before e.pair) (reach_after e.pair) (λ k c. h.before j k b c) (λ k c. h.after j k b c))
