-- An edge next to kept cells: what is left of its stores, sample by sample, line by line, from the samples of its window; and that an edge none of
-- whose samples is kept stores as any edge does. Assumes nothing.
use mathlib.Core.Path.{◌≡◌, refl, sym, ap, ◌∙◌}
use mathlib.Core.Bool.{Bool, true, false}
use mathlib.Core.List.{List, [], ◌∷◌, ◌++◌}
use Prim.Native.Nat.{ℕ, ◌+◌, ◌*◌, ◌/◌, ◌%◌, ◌≤◌, ◌<◌, min}
use native.Mathlib.Nat.{le_antisymm}
use native.Mathlib.Numerals.{add-one}
use native.Mathlib.Omega.{arith}
use lib.Dec.{T, eqb}
use lib.ListN.{length, length-append, get_or, set, get_or-eq_default}
use lib.IntN.{ℤ}
use Rattle.laws.specs.Boxes.{in_box}
use Rattle.laws.specs.Changes.{differ, changes, changes_append}
use Rattle.laws.specs.Choose.{pick}
use Rattle.laws.specs.Loops.{each, each_same}
use Rattle.laws.specs.Outside.{outside, outside_append}
use Rattle.laws.specs.Stores.{Store, puts, puts_then}
use Rattle.laws.specs.Whole.{within}
use Rattle.rules.specs.declared.counts.Counts.{Counts}
use Rattle.rules.specs.declared.edge.Edge.{Edge}
use Rattle.rules.specs.declared.edge.Line.{Line}
use Rattle.rules.specs.declared.edge.Place.{Place}
use Rattle.rules.specs.Lengths.{most_before, reach_before, reach_after}
use Rattle.rules.specs.Taps.{weight_of, most_of, difference}
use Rattle.rules.specs.Width.{blank}
use Rattle.rules.specs.Segment.{p_at, q_at, window_of, chosen_of, line_stores, four_stores, stores_before, stores_after, stores_of, kept_in, none_kept, open_stores, segment_of}
use Rattle.rules.specs.Counts.{stored_at, changed_at}
use Rattle.lengths.proofs.Lengths.{PairFacts, pair_facts}
use Rattle.taps.specs.Signed.{signed}
use Rattle.taps.proofs.Signs.{before_is, after_is}
use Rattle.segment.specs.declared.outcome.Outcome.{Outcome}
use Rattle.segment.specs.Boxes.{write_box}
use Rattle.segment.specs.Fit.{EdgeFits, Filtered, InPlane, EdgeFiltered}
use Rattle.kept.specs.Kept.{along_line, against_line, limited_in, line_open, lines_open, Holds, HoldsLine, HoldsLines, Swept, Few}
use Rattle.segment.specs.Sides.{Scales, none}
use Rattle.segment.proofs.Edges.{after_most, filtered_none}
use Rattle.segment.proofs.Window.{window_p, window_q}
use Rattle.kept.proofs.Same.{open_same}

-- ---- stores that follow each other

module _ {kept : ℕ → Bool} {Of : List ℕ → Type 0} where
  pub swept_none : (f : ℕ → List Store) (q : List ℕ) (n : Counts) → Swept kept (each 0 f) Of q n n q
  unfolding each outside puts changes
  swept_none f q n = record { list = refl; stored = omega arith; changed = λ l h. omega arith }

  pub swept_as : {a b : List Store} {q m : List ℕ} {n r : Counts} → a ≡ b → Swept kept a Of q n r m → Swept kept b Of q n r m
  swept_as e s = rw (← e) s

  -- counted on fewer planes
  pub swept_of : {By : List ℕ → Type 0} {a : List Store} {q m : List ℕ} {n r : Counts} → ((l : List ℕ) → By l → Of l) → Swept kept a Of q n r m → Swept kept a By q n r m
  swept_of f s = record { list = s.list; stored = s.stored; changed = λ l h. s.changed l (f l h) }

  pub swept_then : (a b : List Store) {q m o : List ℕ} {n r t : Counts} → Swept kept a Of q n r m → Swept kept b Of m r t o → Swept kept (a ++ b) Of q n t o
  swept_then a b {q} s u =
      let e = outside_append kept a b in
      record {
        list = puts_then (outside kept a) (outside kept b) q s.list u.list ∙ ap (λ (x : List Store). puts x q) (sym e);
        stored = omega (arith, s.stored, u.stored, length-append (outside kept a) (outside kept b), ap length e);
        changed = λ l h. omega (arith, s.changed l h, u.changed l h, changes_append (outside kept a) (outside kept b) l, ap (λ (x : List Store). changes x l) e);
      }

  -- a loop's turns
  pub swept_more : (f : ℕ → List Store) (k : ℕ) {q m o : List ℕ} {n r t : Counts} → Swept kept (each k f) Of q n r m → Swept kept (f k) Of m r t o → Swept kept (each (k + 1) f) Of q n t o
  unfolding each
  swept_more f k s u = swept_as (ap (λ (j : ℕ). each j f) (sym (add-one k))) (swept_then (each k f) (f k) s u)

  pub swept_end : (f : ℕ → List Store) (k i : ℕ) {q m : List ℕ} {n r : Counts} → Swept kept (each k f) Of q n r m → k ≤ i → i ≤ k → Swept kept (each i f) Of q n r m
  swept_end f k i s a b = swept_as (ap (λ (j : ℕ). each j f) (le_antisymm a b)) s

-- one sample, kept or stored
module _ {kept : ℕ → Bool} {k v d : ℕ} {q : List ℕ} {n : Counts} {b : Bool} (says : b ≡ kept k) where
  pub swept_kept : b ≡ true → Swept kept ((k, v) ∷ []) (λ l. d ≡ differ (get_or l k 0) v) q n n q
  unfolding outside pick puts changes
  swept_kept t =
      let h : kept k ≡ true = sym says ∙ t in
      record { list = rw h; stored = rw h (omega arith); changed = λ l c. rw h (omega arith) }

  pub swept_stored : b ≡ false → Swept kept ((k, v) ∷ []) (λ l. d ≡ differ (get_or l k 0) v) q n (record { stored = n.stored + 1; changed = n.changed + d }) (set q k v)
  unfolding outside pick puts changes
  swept_stored t =
      let h : kept k ≡ false = sym says ∙ t in
      record { list = rw h; stored = rw h (omega arith); changed = λ l c. rw h (omega (arith, c)) }

-- one sample more of a side
pub side_more : {kept : ℕ → Bool} (place : ℕ → ℕ) (value : ℕ → ℕ → ℕ) (s : ℕ) (p : List ℕ) (i v d : ℕ) {q m o : List ℕ} {n r t : Counts} → i < s
    → Swept kept (each i (λ j. (place j, value j (get_or p j 0)) ∷ [])) (Holds place s p) q n r m → v ≡ value i (get_or p i 0) → d ≡ differ (get_or p i 0) v
    → Swept kept ((place i, v) ∷ []) (λ l. d ≡ differ (get_or l (place i) 0) v) m r t o
    → Swept kept (each (i + 1) (λ j. (place j, value j (get_or p j 0)) ∷ [])) (Holds place s p) q n t o
side_more place value s p i v d h a e g u =
    swept_more (λ j. (place j, value j (get_or p j 0)) ∷ []) i a
    (swept_as (ap (λ (x : ℕ). (place i, x) ∷ []) e) (swept_of (λ l c. g ∙ ap (λ (x : ℕ). differ x v) (sym (c.at i h))) u))

-- how far the counts go
pub few_none : (k : ℕ) (n : Counts) → Few k n n
few_none k n = record { stored_few = omega arith; changed_few = omega arith }

pub few_then : {a b c : ℕ} {n r t : Counts} → Few a n r → Few b r t → a + b ≤ c → Few c n t
few_then f g h = record { stored_few = omega (arith, f.stored_few, g.stored_few); changed_few = omega (arith, f.changed_few, g.changed_few) }

pub few_same : {a c : ℕ} {n r : Counts} → Few a n r → a ≤ c → Few c n r
few_same f h = record { stored_few = omega (arith, f.stored_few); changed_few = omega (arith, f.changed_few) }

-- one sample
pub few_one : {n : Counts} {d : ℕ} → d ≤ 1 → Few 1 n (record { stored = n.stored + 1; changed = n.changed + d })
few_one h = record { stored_few = omega arith; changed_few = omega (arith, h) }

-- ---- a line

module _ (top at step s size by : ℕ) (plus : Bool) (e : by ≡ size * weight_of s) (p : List ℕ) where
  along_line_holds : along_line top at step s plus by p s ≡ stores_before top at step s (signed plus size) p s
  along_line_holds = each_same _ _ s (λ i h. ap (λ (v : ℕ). (p_at at step i, v) ∷ []) (before_is top (get_or p i 0) s i size by plus e))

  against_line_holds : against_line top at step s plus by p s ≡ stores_after top at step s (signed plus size) p s
  against_line_holds = each_same _ _ s (λ i h. ap (λ (v : ℕ). (q_at at step i, v) ∷ []) (after_is top (get_or p i 0) s i size by plus e))

pub line_swept : {kept : ℕ → Bool} (top at step n w m size wn ww bn bw : ℕ) (plus : Bool) (x : Line) {q mid o : List ℕ} {a b c : Counts} → Scales n w m wn ww
    → signed plus size ≡ within m (difference (get_or x.p 1 0) (get_or x.p 0 0) (get_or x.q 0 0) (get_or x.q 1 0)) → bn ≡ size * wn → bw ≡ size * ww
    → Swept kept (along_line top at step n plus bn x.p n) (Holds (p_at at step) n x.p) q a b mid
    → Swept kept (against_line top at step w plus bw x.q w) (Holds (q_at at step) w x.q) mid b c o
    → Swept kept (line_open top at step n w m x) (HoldsLine at step n w x) q a c o
unfolding line_open
line_swept top at step n w m size wn ww bn bw plus x sc hs hn hw f g =
    let y : bn ≡ size * weight_of n = rw (← sc.weight_before) hn in
    let z : bw ≡ size * weight_of w = rw (← sc.weight_after) hw in
    swept_then (stores_before top at step n (limited_in x m) x.p n) (stores_after top at step w (limited_in x m) x.q w)
    (swept_as (along_line_holds top at step n size bn plus y x.p ∙ ap (λ (d : ℤ). stores_before top at step n d x.p n) hs) (swept_of (λ l h. h.before) f))
    (swept_as (against_line_holds top at step w size bw plus z x.q ∙ ap (λ (d : ℤ). stores_after top at step w d x.q w) hs) (swept_of (λ l h. h.after) g))

-- one line more
pub line_next : {kept : ℕ → Bool} (top at step line n w m : ℕ) (ls : List Line) (j : ℕ) {q mid o : List ℕ} {a b c : Counts} → j < 4
    → Swept kept (each j (λ i. line_open top (at + i * line) step n w m (get_or ls i blank))) (HoldsLines at step line n w ls) q a b mid
    → Swept kept (line_open top (at + j * line) step n w m (get_or ls j blank)) (HoldsLine (at + j * line) step n w (get_or ls j blank)) mid b c o
    → Swept kept (each (j + 1) (λ i. line_open top (at + i * line) step n w m (get_or ls i blank))) (HoldsLines at step line n w ls) q a c o
line_next top at step line n w m ls j h f g =
    swept_more (λ i. line_open top (at + i * line) step n w m (get_or ls i blank)) j f (swept_of (λ l k. k.each_line j h) g)

-- ---- an edge by offsets: the window that was read first

module _ (top : ℕ) (e : Place) (l : List ℕ) (f : PairFacts e.pair) (n w : ℕ) (hn : n ≤ reach_before e.pair) (hw : w ≤ reach_after e.pair) where
  abbrev Ls : List Line
  Ls = window_of e l

  holds_read : HoldsLines e.at e.step e.line n w Ls l
  holds_read = record {
    each_line = λ j h. record {
      before = record { at = λ i b. sym (window_p e l f j i h (omega arith)) };
      after = record { at = λ i b. sym (window_q e l f j i h (omega arith)) };
    };
  }

  lines_same : lines_open top e.at e.step e.line n w (e.q * most_of w) Ls ≡ four_stores top e.at e.step e.line n w e.q (window_of e l)
  unfolding lines_open four_stores line_open line_stores
  lines_same = refl

-- an edge that filters nothing, of a plane that stayed as it was
pub filtered_off : (top : ℕ) (kept : ℕ → Bool) (e : Place) (l : List ℕ) {w : ℕ} {m : List ℕ} → w ≡ chosen_of e (window_of e l) → w ≡ 0 → m ≡ l → Filtered top kept e l record { width = 0; stored = 0; changed = 0 } m
filtered_off top kept e l hw hz same = rw same (filtered_none top kept e l hw hz)

pub fit_as : {e : Place} {a b : ℕ} → a ≡ b → EdgeFits e b → EdgeFits e a
fit_as h f = rw h f

-- an edge that filters: its window was read, and then its open samples stored, into a plane that was as it is
pub filtered_open : (top : ℕ) (kept : ℕ → Bool) (e : Place) (l o m : List ℕ) {r : Counts} {ls : List Line} {size n w k lim : ℕ} → EdgeFits e size → w ≡ chosen_of e (window_of e l) → (w ≡ 0 → ⊥) → n ≡ most_before e.pair → k ≡ min w n
    → o ≡ l → ls ≡ window_of e o → lim ≡ e.q * most_of w
    → Swept kept (lines_open top e.at e.step e.line k w lim ls) (HoldsLines e.at e.step e.line k w ls) o none r m
    → Filtered top kept e l record { width = w; stored = r.stored; changed = r.changed } m
unfolding stores_of
filtered_open top kept e l o m {r} {ls} {size} {n} {w} {k} {lim} fit hw some hn hk same read hm s =
    let hl : ls ≡ window_of e l = read ∙ ap (λ (x : List ℕ). window_of e x) same in
    let f = pair_facts e.pair fit.pair_is in
    let fb = f.before in
    let fa = f.after in
    let g = after_most e l fit hw some hn hk in
    let x : k ≤ reach_before e.pair = omega arith in
    let y : w ≤ reach_after e.pair = omega arith in
    let t = lines_same top e l f k w x y in
    let z : min w n ≡ min (chosen_of e (window_of e l)) (most_before e.pair) = cc in
    let ss : lines_open top e.at e.step e.line k w lim ls ≡ stores_of top e (window_of e l) = cc in
    let held : HoldsLines e.at e.step e.line k w ls l = rw hl (holds_read top e l f k w x y) in
    let u = swept_as ss s in
    record { width = hw; plane = u.list ∙ ap (λ (x : List ℕ). puts (outside kept (stores_of top e (window_of e l))) x) same; stored = omega (arith, u.stored); changed = omega (arith, u.changed l held) }

-- ---- an edge of a plane, none of whose samples is kept

pub edge_open : {top stride columns rows : ℕ} {e : Edge} {l m : List ℕ} {r : Outcome} (kept : ℕ → Bool) → InPlane stride columns rows e (length l) → ((k : ℕ) → T (in_box stride (write_box e) k) → kept k ≡ false)
    → EdgeFiltered top stride none_kept e l r m → EdgeFiltered top stride kept e l r m
unfolding segment_of stored_at changed_at
edge_open {top} {stride} {e = e} {l = l} kept h free f =
    let same : open_stores top stride none_kept e l ≡ open_stores top stride kept e l = open_same top stride none_kept kept e h (λ k t. sym (free k t)) l in
    record {
      width = f.width;
      plane = f.plane ∙ ap (λ (x : List Store). puts x l) same;
      stored = f.stored ∙ ap length same;
      changed = f.changed ∙ ap (λ (x : List Store). changes x l) same;
    }

-- an empty list keeps nothing
pub empty_open : (cols stride : ℕ) (keep : List ℕ) → length keep ≡ 0 → (k : ℕ) → kept_in cols stride keep k ≡ false
unfolding kept_in
empty_open cols stride keep h k =
    let i = k / stride / 4 * cols + k % stride / 4 in
    ap (λ (m : ℕ). eqb m 1) (get_or-eq_default keep 0 {n = i} (omega arith))
