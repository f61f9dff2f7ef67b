-- An edge that has room: demand 3 at each sample within the widths that is not kept, every other sample as it was, and none over top that was not.
-- Assumes nothing.
use Rattle.std.proofs.Common.{◌≡◌, ℕ, zero, suc, ◌<◌, ◌≤◌, min, Bool, true, false, eqb, List, [], ◌∷◌, length, get_or, set, ℤ, pos, ◌+ℤ◌, ◌-ℤ◌, refl, ap, ◌∙◌, arith}
use Rattle.laws.specs.Lists.{Each}
use Rattle.laws.specs.Stores.{Store, puts, puts_other, puts_length}
use Rattle.laws.specs.Outside.{outside, outside_each, outside_kept, outside_rest}
use Rattle.laws.specs.Whole.{limit_most}
use Rattle.rules.specs.declared.edge.Edge.{Edge}
use Rattle.rules.specs.declared.edge.Place.{Place}
use Rattle.rules.specs.declared.edge.Line.{Line}
use Rattle.rules.specs.Lengths.{most_before, most_after, reach_before, reach_after}
use Rattle.rules.specs.Width.{blank, p_of, q_of}
use Rattle.rules.specs.Taps.{move, before, after}
use Rattle.rules.specs.Ramp.{Near, ramp_before, ramp_after}
use Rattle.rules.specs.Segment.{placed, edge_place, window_of, chosen_of, stores_of, difference_of, width_at, open_stores, segment_of}
use Rattle.lengths.proofs.Lengths.{PairFacts, pair_facts}
use Rattle.width.proofs.Most.{width_most}
use Rattle.taps.proofs.Ramp.{ramp_before_holds, ramp_after_holds}
use Rattle.segment.specs.Fit.{EdgeFits, InPlane}
use Rattle.segment.specs.Promises.{p_place, q_place, Demand3, Outside}
use Rattle.segment.proofs.Places.{before_in, after_in, line_in}
use Rattle.segment.proofs.Edges.{fit_of}
use Rattle.segment.proofs.Samples.{all_stores, sample_before, sample_after}
use Rattle.segment.proofs.Window.{window_p, window_q}

-- ---- an edge by offsets
pub chosen_most : (g : Place) (ls : List Line) → g.pair < 8 → chosen_of g ls ≤ most_after g.pair
unfolding chosen_of
chosen_most g ls h = width_most ls (most_before g.pair) g.q g.side (pair_facts g.pair h).after_is

module _ (top : ℕ) (kept : ℕ → Bool) (g : Place) (l : List ℕ) (fit : EdgeFits g (length l)) where
  abbrev wide : ℕ
  wide = chosen_of g (window_of g l)

  abbrev narrow : ℕ
  narrow = min wide (most_before g.pair)

  abbrev diff : ℕ → ℤ
  diff j = difference_of (get_or (window_of g l) j blank) g.q wide

  abbrev left : List ℕ
  left = puts (outside kept (stores_of top g (window_of g l))) l

  facts : PairFacts g.pair
  facts = pair_facts g.pair fit.pair_is

  p_inside : (j k : ℕ) → j < 4 → k < narrow → p_place g j k < length l
  p_inside j k hj hk =
      let f = facts.before in
      let r = fit.room in
      omega (arith, before_in k (reach_before g.pair) g.step g.at (omega arith) r.low, line_in j g.line hj)

  q_inside : (j k : ℕ) → j < 4 → k < wide → q_place g j k < length l
  q_inside j k hj hk =
      let f = facts.after in
      let m = chosen_most g (window_of g l) fit.pair_is in
      let r = fit.room in
      omega (arith, after_in k (reach_after g.pair) g.step (omega arith), line_in j g.line hj)

  new_before : (j k : ℕ) → j < 4 → k < narrow → kept (p_place g j k) ≡ false → get_or left (p_place g j k) 0 ≡ before top (get_or l (p_place g j k) 0) (diff j) narrow k
  unfolding stores_of
  new_before j k hj hk free =
      let fb = facts.before in
      let fa = facts.after in
      let m = chosen_most g (window_of g l) fit.pair_is in
      outside_rest kept (stores_of top g (window_of g l)) l (p_place g j k) free
      ∙ sample_before top g.at g.step g.line narrow wide g.q (window_of g l) fit.spread (omega arith) (omega arith) l j k hj hk (p_inside j k hj hk)
      ∙ ap (λ (x : ℕ). before top x (diff j) narrow k) (window_p g l facts j k hj (omega arith))

  new_after : (j k : ℕ) → j < 4 → k < wide → kept (q_place g j k) ≡ false → get_or left (q_place g j k) 0 ≡ after top (get_or l (q_place g j k) 0) (diff j) wide k
  unfolding stores_of
  new_after j k hj hk free =
      let fb = facts.before in
      let fa = facts.after in
      let m = chosen_most g (window_of g l) fit.pair_is in
      outside_rest kept (stores_of top g (window_of g l)) l (q_place g j k) free
      ∙ sample_after top g.at g.step g.line narrow wide g.q (window_of g l) fit.spread (omega arith) (omega arith) l j k hj hk (q_inside j k hj hk)
      ∙ ap (λ (x : ℕ). after top x (diff j) wide k) (window_q g l facts j k hj (omega arith))

  near_before : (j k : ℕ) → j < 4 → k < narrow → kept (p_place g j k) ≡ false → Near (get_or left (p_place g j k) 0) (ramp_before top (get_or l (p_place g j k) 0) (diff j) narrow k) (diff j) narrow k
  near_before j k hj hk free =
      let f = facts.before in
      rw (new_before j k hj hk free) (ramp_before_holds top (get_or l (p_place g j k) 0) narrow k hk (omega arith) (diff j))

  near_after_holds : (j k : ℕ) → j < 4 → k < wide → kept (q_place g j k) ≡ false → Near (get_or left (q_place g j k) 0) (ramp_after top (get_or l (q_place g j k) 0) (diff j) wide k) (diff j) wide k
  near_after_holds j k hj hk free =
      let f = facts.after in
      let m = chosen_most g (window_of g l) fit.pair_is in
      rw (new_after j k hj hk free) (ramp_after_holds top (get_or l (q_place g j k) 0) wide k hk (omega arith) (diff j))

-- ---- every store is at most top
before_most : (top x : ℕ) (d : ℤ) (s i : ℕ) → before top x d s i ≤ top
before_most top x d s i = limit_most top (pos x +ℤ move d s i)

after_most : (top x : ℕ) (d : ℤ) (s i : ℕ) → after top x d s i ≤ top
after_most top x d s i = limit_most top (pos x -ℤ move d s i)

set_most : (top i p v : ℕ) (l : List ℕ) → v ≤ top → get_or l i 0 ≤ top → get_or (set l p v) i 0 ≤ top
set_most top i p v [] h b = b
set_most top zero zero v (x ∷ l) h b = h
set_most top (suc i) zero v (x ∷ l) h b = b
set_most top zero (suc p) v (x ∷ l) h b = b
set_most top (suc i) (suc p) v (x ∷ l) h b = set_most top i p v l h b

puts_most : (top i : ℕ) (ss : List Store) (l : List ℕ) → Each (λ st. st.1 ≤ top) ss → get_or l i 0 ≤ top → get_or (puts ss l) i 0 ≤ top
unfolding puts
puts_most top i [] l h b = b
puts_most top i (s ∷ ss) l h b = puts_most top i ss (set l s.0 s.1) h.1 (set_most top i s.0 s.1 l h.0 b)

stores_most : (top : ℕ) (g : Place) (ls : List Line) → Each (λ st. st.1 ≤ top) (stores_of top g ls)
unfolding stores_of
stores_most top g ls =
    all_stores top g.at g.step g.line (min (chosen_of g ls) (most_before g.pair)) (chosen_of g ls) g.q ls (λ st. st.1 ≤ top)
    (λ j k hj hk. before_most top (p_of ls j k) (difference_of (get_or ls j blank) g.q (chosen_of g ls)) (min (chosen_of g ls) (most_before g.pair)) k)
    (λ j k hj hk. after_most top (q_of ls j k) (difference_of (get_or ls j blank) g.q (chosen_of g ls)) (chosen_of g ls) k)

-- ---- an edge of a plane
placed_same : (t : Bool) (stride : ℕ) (e : Edge) → ((placed t stride e).pair ≡ e.pair) × ((placed t stride e).q ≡ e.q)
placed_same true stride e = (refl, refl)
placed_same false stride e = (refl, refl)

pub place_same : (stride : ℕ) (e : Edge) → ((edge_place stride e).pair ≡ e.pair) × ((edge_place stride e).q ≡ e.q)
unfolding edge_place
place_same stride e = placed_same (eqb e.dir 0) stride e

module _ (top stride : ℕ) (kept : ℕ → Bool) (e : Edge) (l : List ℕ) where
  pub demand_3 : {columns rows : ℕ} → InPlane stride columns rows e (length l) → Demand3 top stride kept e l (segment_of top stride kept e l)
  unfolding width_at segment_of edge_place
  demand_3 h =
      let g = edge_place stride e in
      let f = fit_of h refl in
      let p = (place_same stride e).0 in
      let q = (place_same stride e).1 in
      record {
        before = λ j k hj hk free. rw (p, q) at (near_before top kept g l f j k hj (rw p hk) free);
        after = λ j k hj hk free. rw q at (near_after_holds top kept g l f j k hj hk free);
      }

  -- every place outside of the widths
  pub edge_kept : (i : ℕ) → Outside stride e l i → get_or (segment_of top stride kept e l) i 0 ≡ get_or l i 0
  unfolding width_at segment_of stores_of edge_place
  edge_kept i o =
      let g = edge_place stride e in
      let p = (place_same stride e).0 in
      puts_other (outside kept (stores_of top g (window_of g l))) l i (outside_each kept (λ st. st.0 ≡ i → ⊥) (stores_of top g (window_of g l))
      (all_stores top g.at g.step g.line (min (chosen_of g (window_of g l)) (most_before g.pair)) (chosen_of g (window_of g l)) g.q (window_of g l) (λ st. st.0 ≡ i → ⊥)
      (λ j k hj hk. o.before j k hj (rw p at hk)) o.after))

  -- and every one in a kept cell
  pub edge_holds : (i : ℕ) → kept i ≡ true → get_or (segment_of top stride kept e l) i 0 ≡ get_or l i 0
  unfolding segment_of
  edge_holds i h = outside_kept kept (stores_of top (edge_place stride e) (window_of (edge_place stride e) l)) l i h

  pub edge_most : (i : ℕ) → get_or l i 0 ≤ top → get_or (segment_of top stride kept e l) i 0 ≤ top
  unfolding segment_of
  edge_most i b =
      puts_most top i (open_stores top stride kept e l) l
      (outside_each kept (λ st. st.1 ≤ top) (stores_of top (edge_place stride e) (window_of (edge_place stride e) l)) (stores_most top (edge_place stride e) (window_of (edge_place stride e) l))) b

  pub edge_length : length (segment_of top stride kept e l) ≡ length l
  unfolding segment_of
  edge_length = puts_length (open_stores top stride kept e l) l
