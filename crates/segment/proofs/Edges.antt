-- One edge: room for what is read and stored, the answer, and either direction.
-- Assumes nothing.
use Rattle.std.proofs.Common.{◌≡◌, ℕ, ◌+◌, ◌-◌, ◌*◌, ◌<◌, ◌≤◌, min, Bool, true, false, eqb, List, [], ◌∷◌, ◌++◌, length, get_or, ℤ, sym, refl, ap, ◌∙◌, ap₂, mul-le-mul_right, add-mul, arith, eq-eqb, ne_eqb}
use native.Mathlib.Decide.{dec_le}
use Rattle.laws.specs.Loops.{each, each_same}
use Rattle.laws.specs.Stores.{Store, puts}
use Rattle.laws.specs.Changes.{changes, put_as}
use Rattle.laws.specs.Outside.{outside, outside_nothing}
use Rattle.rules.specs.declared.edge.Edge.{Edge}
use Rattle.rules.specs.declared.edge.Place.{Place}
use Rattle.rules.specs.declared.edge.Line.{Line}
use Rattle.rules.specs.declared.counts.Counts.{Counts}
use Rattle.rules.specs.Lengths.{most_before, most_after, reach_before, reach_after}
use Rattle.rules.specs.Width.{blank}
use Rattle.rules.specs.Taps.{most_of, before, after}
use Rattle.rules.specs.Segment.{placed, edge_place, has_room, p_at, q_at, difference_of, window_of, chosen_of, stores_of, four_stores, line_stores, none_kept, width_at, segment_of}
use Rattle.rules.specs.Counts.{stored_at, changed_at}
use Rattle.lengths.proofs.Lengths.{PairFacts, pair_facts}
use Rattle.width.specs.Tests.{off_of}
use Rattle.width.proofs.Most.{width_most}
use Rattle.segment.specs.declared.outcome.Outcome.{Outcome}
use Rattle.segment.specs.Fit.{Room, Spread, EdgeFits, Filtered, Chosen, InPlane, EdgeFiltered}
use Rattle.segment.specs.Sides.{difference_in, line_taps, four_taps, Lanes, none, Tapped}
use Rattle.segment.proofs.Window.{window_p, window_q}
use Rattle.segment.proofs.Cells.{Along, along_of, spread_of}

-- ---- room
step_of : {at step line b a : ℕ} → Spread at step line b a → 3 ≤ b → 1 ≤ step
step_of {at} {step} {line} r h =
    elim (dec_le 1 step) [
      | yes k ↦ k
      | no k ↦ absurd (let z : step ≡ 0 = omega arith in let f = r.befores 0 0 0 1 (omega arith) (omega arith) (omega arith) (omega arith) (rw z (omega arith)) in omega arith)
    ]

spread_less : {at step line b a n w : ℕ} → Spread at step line b a → n ≤ b → w ≤ a → Spread at step line n w
spread_less r hn hw = record {
  befores = λ j k i m hj hk hi hm. r.befores j k i m hj (omega arith) hi (omega arith);
  afters = λ j k i m hj hk hi hm. r.afters j k i m hj (omega arith) hi (omega arith);
  across = λ j k i m hj hk hi hm. r.across j k i m hj (omega arith) hi (omega arith);
}

module _ (e : Place) {size : ℕ} (fit : EdgeFits e size) where
  pub read_room : {b a : ℕ} → b ≡ reach_before e.pair → a ≡ reach_after e.pair → (3 ≤ b) × (3 ≤ a) × (Room e.at e.step e.line b a size)
  read_room p q =
      let f = pair_facts e.pair fit.pair_is in
      let fb = f.before in
      let fa = f.after in
      (omega arith, omega arith, rw (p, q) fit.room)

  pub choice_fits : {p : ℕ} → p ≡ most_after e.pair → off_of e.q e.side ≡ false → (p ≤ 8) × (e.q ≤ 2048) × (e.side ≤ 839) × (off_of e.q e.side ≡ false)
  choice_fits h lit = let f = (pair_facts e.pair fit.pair_is).after in (omega arith, fit.q_most, fit.side_most, lit)

-- ---- the widths of an edge that filters
module _ (e : Place) (l : List ℕ) {size : ℕ} (fit : EdgeFits e size) {n w k : ℕ} (hw : w ≡ chosen_of e (window_of e l)) (some : w ≡ 0 → ⊥) (hn : n ≡ most_before e.pair) (hk : k ≡ min w n) where
  pub after_most : w ≤ most_after e.pair
  unfolding chosen_of
  after_most = rw hw (width_most (window_of e l) (most_before e.pair) e.q e.side (pair_facts e.pair fit.pair_is).after_is)

  pub widths_fit : (1 ≤ w) × (w ≤ 8) × (1 ≤ k) × (k ≤ 8)
  widths_fit =
      let f = pair_facts e.pair fit.pair_is in
      let fb = f.before in
      let fa = f.after in
      let m = after_most in
      (omega arith, omega arith, omega arith, omega arith)

  pub lanes_fit : Lanes e.at e.step e.line k w size
  lanes_fit =
      let f = pair_facts e.pair fit.pair_is in
      let fb = f.before in
      let fa = f.after in
      let m = after_most in
      let r = fit.room in
      let b : k ≤ reach_before e.pair = omega arith in
      let c : w - 1 ≤ reach_after e.pair - 1 = omega arith in
      let b2 : 2 ≤ reach_before e.pair = omega arith in
      let c2 : 1 ≤ reach_after e.pair - 1 = omega arith in
      let x = mul-le-mul_right e.step b in
      let y = mul-le-mul_right e.step c in
      let x2 = mul-le-mul_right e.step b2 in
      let y2 = mul-le-mul_right e.step c2 in
      record {
        step_some = step_of fit.spread fb.reach_3;
        after_some = omega arith;
        before_most = omega arith;
        after_most = omega arith;
        low = omega arith;
        low_2 = omega arith;
        high = omega arith;
        high_2 = omega arith;
        spread = spread_less fit.spread (omega arith) (omega arith);
      }

-- ---- the taps of the plane are the stores of the window
module _ (top : ℕ) (e : Place) (l : List ℕ) (f : PairFacts e.pair) (n w : ℕ) (hn : n ≤ reach_before e.pair) (hw : w ≤ reach_after e.pair) where
  line_taps_holds : (j : ℕ) → j < 4 → line_taps top (e.at + j * e.line) e.step n w (e.q * most_of w) l ≡ line_stores top (e.at + j * e.line) e.step n w e.q (get_or (window_of e l) j blank)
  unfolding line_taps line_stores
  line_taps_holds j h =
      let fb = f.before in
      let fa = f.after in
      let d : difference_in l (e.at + j * e.line) e.step (e.q * most_of w) ≡ difference_of (get_or (window_of e l) j blank) e.q w =
      rw (window_p e l f j 1 h (omega arith), window_p e l f j 0 h (omega arith), window_q e l f j 0 h (omega arith), window_q e l f j 1 h (omega arith)) in
      ap₂ (λ (x y : List Store). x ++ y)
      (each_same _ _ n (λ i b. ap₂ (λ (x : ℕ) (z : ℤ). (p_at (e.at + j * e.line) e.step i, before top x z n i) ∷ []) (sym (window_p e l f j i h (omega arith))) d))
      (each_same _ _ w (λ i b. ap₂ (λ (x : ℕ) (z : ℤ). (q_at (e.at + j * e.line) e.step i, after top x z w i) ∷ []) (sym (window_q e l f j i h (omega arith))) d))

  taps_are : four_taps top e.at e.step e.line n w (e.q * most_of w) l ≡ four_stores top e.at e.step e.line n w e.q (window_of e l)
  unfolding four_taps four_stores
  taps_are = each_same _ _ 4 line_taps_holds

-- ---- the answer
no_stores : (top at step line n q : ℕ) (ls : List Line) → n ≡ 0 → [] ≡ four_stores top at step line n 0 q ls
unfolding four_stores line_stores each
no_stores top at step line n q ls h = rw h

pub filtered_none : (top : ℕ) (kept : ℕ → Bool) (e : Place) (l : List ℕ) {w : ℕ} → w ≡ chosen_of e (window_of e l) → w ≡ 0 → Filtered top kept e l record { width = 0; stored = 0; changed = 0 } l
unfolding stores_of outside puts changes
filtered_none top kept e l {w} hw hz =
    let z : chosen_of e (window_of e l) ≡ 0 = cc in
    let f = no_stores top e.at e.step e.line (min 0 (most_before e.pair)) e.q (window_of e l) (omega arith) in
    record { width = sym z; plane = rw (z, ← f); stored = rw (z, ← f); changed = rw (z, ← f) }

-- its width alone
pub chosen_alone : (e : Place) (l : List ℕ) {w : ℕ} → w ≡ chosen_of e (window_of e l) → Chosen e l record { width = w; stored = 0; changed = 0 } l
chosen_alone e l h = record { width = h; plane = refl }

pub filtered_some : (top : ℕ) (e : Place) (l m : List ℕ) {r : Counts} {size n w k lim : ℕ} → EdgeFits e size → w ≡ chosen_of e (window_of e l) → (w ≡ 0 → ⊥) → n ≡ most_before e.pair → k ≡ min w n
    → Tapped (four_taps top e.at e.step e.line k w lim l) l none r m → lim ≡ e.q * most_of w → Filtered top none_kept e l record { width = w; stored = r.stored; changed = r.changed } m
unfolding stores_of
filtered_some top e l m {r} {size} {n} {w} {k} {lim} fit hw some hn hk hm hl =
    let f = pair_facts e.pair fit.pair_is in
    let fb = f.before in
    let fa = f.after in
    let g = after_most e l fit hw some hn hk in
    let t = taps_are top e l f k w (omega arith) (omega arith) in
    let z : min w n ≡ min (chosen_of e (window_of e l)) (most_before e.pair) = cc in
    let all : four_taps top e.at e.step e.line k w lim l ≡ stores_of top e (window_of e l) = cc in
    let ss = all ∙ sym (outside_nothing none_kept (λ i. refl) (stores_of top e (window_of e l))) in
    record { width = hw; plane = (put_as ss hm.put).list; stored = omega (arith, hm.stored, ap length ss); changed = omega (arith, (put_as ss hm.put).count) }

-- ---- room in a plane, over the direction
room_of : (t : Bool) (stride columns rows size : ℕ) (e : Edge) → columns ≤ stride → rows * stride ≤ size → PairFacts e.pair
    → Along t columns rows e.x e.y (reach_before e.pair) (reach_after e.pair)
    → Room (placed t stride e).at (placed t stride e).step (placed t stride e).line (reach_before e.pair) (reach_after e.pair) size
room_of true stride columns rows size e hc hs f r =
    let x = mul-le-mul_right stride r.2 in
    let y = add-mul e.y 4 stride in
    let b = f.before in
    let a = f.after in
    record { low = omega arith; high = omega arith; some = omega arith; most_before = b.reach_8; most_after = a.reach_8 }
room_of false stride columns rows size e hc hs f r =
    let b = f.before in
    let a = f.after in
    let l : e.y + (reach_after e.pair - 1) + 1 ≤ rows = omega arith in
    let x = mul-le-mul_right stride l in
    let y = add-mul (e.y + (reach_after e.pair - 1)) 1 stride in
    let z = add-mul e.y (reach_after e.pair - 1) stride in
    let v = mul-le-mul_right stride r.0 in
    record { low = omega arith; high = omega arith; some = omega arith; most_before = b.reach_8; most_after = a.reach_8 }

fit_at : (t : Bool) (stride columns rows size : ℕ) (e : Edge) → e.pair < 8 → e.q ≤ 2048 → e.side ≤ 839 → columns ≤ stride → rows * stride ≤ size
    → Along t columns rows e.x e.y (reach_before e.pair) (reach_after e.pair) → EdgeFits (placed t stride e) size
fit_at true stride columns rows size e hp hq hs hc hz r = record { pair_is = hp; q_most = hq; side_most = hs; room = room_of true stride columns rows size e hc hz (pair_facts e.pair hp) r; spread = spread_of true stride columns rows e hc r }
fit_at false stride columns rows size e hp hq hs hc hz r = record { pair_is = hp; q_most = hq; side_most = hs; room = room_of false stride columns rows size e hc hz (pair_facts e.pair hp) r; spread = spread_of false stride columns rows e hc r }

pub along_in : {stride columns rows size : ℕ} {e : Edge} → InPlane stride columns rows e size → Along (eqb e.dir 0) columns rows e.x e.y (reach_before e.pair) (reach_after e.pair)
unfolding has_room
along_in {stride} {columns} {rows} {size} {e} h = along_of (eqb e.dir 0) columns rows e.x e.y (reach_before e.pair) (reach_after e.pair) h.room

pub fit_of : {stride columns rows size : ℕ} {e : Edge} {g : Place} → InPlane stride columns rows e size → g ≡ edge_place stride e → EdgeFits g size
unfolding edge_place
fit_of {stride} {columns} {rows} {size} {e} h q =
    rw q (fit_at (eqb e.dir 0) stride columns rows size e h.pair_is h.q_most h.side_most h.row h.plane (along_in h))

at_of : (t : Bool) (stride : ℕ) (e : Edge) → (placed t stride e).at ≡ e.y * stride + e.x
at_of true stride e = refl
at_of false stride e = refl

pub at_below : {stride columns rows size : ℕ} {e : Edge} → InPlane stride columns rows e size → e.y * stride + e.x < size
at_below {stride} {columns} {rows} {size} {e} h =
    let r = room_of (eqb e.dir 0) stride columns rows size e h.row h.plane (pair_facts e.pair h.pair_is) (along_in h) in
    omega (arith, at_of (eqb e.dir 0) stride e)

-- ---- where an edge stands
pub place_vertical : (stride : ℕ) (e : Edge) → e.dir ≡ 0 → placed true stride e ≡ edge_place stride e
unfolding edge_place
place_vertical stride e h = rw (eq-eqb _ _ h)

pub place_horizontal : (stride : ℕ) (e : Edge) → (e.dir ≡ 0 → ⊥) → placed false stride e ≡ edge_place stride e
unfolding edge_place
place_horizontal stride e h = rw (ne_eqb _ _ h)

pub edge_filtered : (top stride : ℕ) (kept : ℕ → Bool) (e : Edge) {g : Place} {l : List ℕ} {r : Outcome} {m : List ℕ} → g ≡ edge_place stride e → Filtered top kept g l r m → EdgeFiltered top stride kept e l r m
unfolding width_at segment_of stored_at changed_at
edge_filtered top stride kept e {g} {l} q f = record {
  width = f.width ∙ ap (λ (p : Place). chosen_of p (window_of p l)) q;
  plane = f.plane ∙ ap (λ (p : Place). puts (outside kept (stores_of top p (window_of p l))) l) q;
  stored = f.stored ∙ ap (λ (p : Place). length (outside kept (stores_of top p (window_of p l)))) q;
  changed = f.changed ∙ ap (λ (p : Place). changes (outside kept (stores_of top p (window_of p l))) l) q;
}
