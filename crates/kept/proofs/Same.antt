-- Two tests of kept samples that agree where an edge may store: it stores the same, and on planes that agree within its reach it leaves the same there;
-- tests that agree on the samples of a plane, and runs of edges.
-- Assumes nothing.
use mathlib.Core.Path.{◌≡◌, refl, sym, ap, ap₂, ◌∙◌}
use mathlib.Core.Bool.{Bool, true}
use mathlib.Core.List.{List, [], ◌∷◌}
use Prim.Native.Nat.{ℕ, ◌+◌, ◌*◌, ◌/◌, ◌%◌, ◌≤◌, ◌<◌}
use native.Mathlib.Nat.{add-mul, mul-le-mul_right, div-add-mod'}
use native.Mathlib.Omega.{arith}
use lib.Dec.{T, eqb}
use lib.ListN.{length, get_or}
use Rattle.laws.specs.Boxes.{in_box, in_inside}
use Rattle.laws.specs.Changes.{changes}
use Rattle.laws.specs.Footprints.{Agree}
use Rattle.laws.specs.Lists.{Each, each_map}
use Rattle.laws.specs.Outside.{outside, outside_same}
use Rattle.laws.specs.Stores.{Store, puts, puts_agree_in}
use Rattle.laws.specs.Trace.{run, total}
use Rattle.rules.specs.declared.edge.Edge.{Edge}
use Rattle.rules.specs.declared.edge.Line.{Line}
use Rattle.rules.specs.Segment.{edge_place, window_of, chosen_of, stores_of, kept_in, none_kept, width_at, open_stores, segment_of, run_edges}
use Rattle.rules.specs.Counts.{stored_at, changed_at, stored_by, changed_by}
use Rattle.segment.specs.declared.outcome.Outcome.{Outcome}
use Rattle.segment.specs.Boxes.{read_box, write_box}
use Rattle.segment.specs.Fit.{InPlane, EdgeFiltered}
use Rattle.segment.proofs.Demand.{edge_holds}
use Rattle.segment.proofs.Local.{write_read, read_inside, stored_inside, same_window, stores_in}

-- ---- runs of operations that do the same

module _ {E S : Type 0} (step twin : E → S → S) (Good : E → Type 0) (same : (e : E) (s : S) → Good e → step e s ≡ twin e s) where
  run_twin : (xs : List E) → Each Good xs → (s : S) → run step xs s ≡ run twin xs s
  run_twin [] g s = refl
  run_twin (x ∷ xs) g s = ap (λ (u : S). run step xs u) (same x s g.0) ∙ run_twin xs g.1 (twin x s)

  total_twin : (cost fee : E → S → ℕ) → ((e : E) (s : S) → Good e → cost e s ≡ fee e s) → (xs : List E) → Each Good xs → (s : S) → total step cost xs s ≡ total twin fee xs s
  total_twin cost fee as-much [] g s = refl
  total_twin cost fee as-much (x ∷ xs) g s =
      ap₂ (λ (a b : ℕ). a + b) (as-much x s g.0) (ap (λ (u : S). total step cost xs u) (same x s g.0) ∙ total_twin cost fee as-much xs g.1 (twin x s))

-- ---- one edge

module _ (top stride : ℕ) (kept keep : ℕ → Bool) (e : Edge) {columns rows size : ℕ} (h : InPlane stride columns rows e size) (same : (k : ℕ) → T (in_box stride (write_box e) k) → kept k ≡ keep k) where
  -- tests that agree where it may store
  pub open_same : (l : List ℕ) → open_stores top stride kept e l ≡ open_stores top stride keep e l
  open_same l =
      let ss = stores_of top (edge_place stride e) (window_of (edge_place stride e) l) in
      outside_same kept keep ss
      (each_map (λ st. T (in_box stride (write_box e) st.0)) (λ st. kept st.0 ≡ keep st.0) (λ st t. same st.0 t) ss (stores_in stride e h top (window_of (edge_place stride e) l)))

  -- and planes that agree within its reach
  pub samples_same : (l m : List ℕ) → rows * stride ≤ length l → rows * stride ≤ length m → Agree (in_box stride (read_box e)) l m
      → Agree (in_box stride (read_box e)) (segment_of top stride kept e l) (segment_of top stride keep e m)
  unfolding segment_of
  samples_same l m hl hm g i t =
      let p = read_inside stride e h i t in
      let q : i / stride + 1 ≤ rows = omega (arith, p.1) in
      let r : i < rows * stride = omega (arith, p.0, h.row, mul-le-mul_right stride q, add-mul (i / stride) 1 stride, div-add-mod' i stride) in
      ap (λ (ss : List Store). get_or (puts ss l) i 0) (open_same l ∙ ap (λ (ls : List Line). outside keep (stores_of top (edge_place stride e) ls)) (same_window stride e h l m g))
      ∙ puts_agree_in (open_stores top stride keep e m) l m i (omega arith) (omega arith) (g i t)

-- document 01: "Two accepted lone segments with the same settings, whose planes are equal within an edge's reach on its four lines, get equal new samples there."
-- Ticket 7: that claim "asks equal marks too where a segment takes any"; two edges with marks, r and s told and the planes a and b left
module _ (cols : ℕ) (front back : List ℕ) {top stride columns rows : ℕ} {e : Edge} {l m a b : List ℕ} {r s : Outcome} (hl : InPlane stride columns rows e (length l)) (hm : InPlane stride columns rows e (length m))
    (f : EdgeFiltered top stride (kept_in cols stride front) e l r a) (g : EdgeFiltered top stride (kept_in cols stride back) e m s b) (planes : Agree (in_box stride (read_box e)) l m) where
  pub marked_width : r.width ≡ s.width
  unfolding width_at
  marked_width = f.width ∙ ap (λ (ls : List Line). chosen_of (edge_place stride e) ls) (same_window stride e hl l m planes) ∙ sym g.width

  pub marked_samples : ((k : ℕ) → T (in_box stride (read_box e) k) → get_or front (k / stride / 4 * cols + k % stride / 4) 0 ≡ get_or back (k / stride / 4 * cols + k % stride / 4) 0)
      → Agree (in_box stride (read_box e)) a b
  unfolding kept_in
  marked_samples marks i t =
      let same = samples_same top stride (kept_in cols stride front) (kept_in cols stride back) e hl
      (λ k w. ap (λ (x : ℕ). eqb x 1) (marks k (in_inside stride (write_box e) (read_box e) (write_read e hl.pair_is) k w))) l m hl.plane hm.plane planes in
      ap (λ (x : List ℕ). get_or x i 0) f.plane ∙ same i t ∙ ap (λ (x : List ℕ). get_or x i 0) (sym g.plane)

-- ---- edges of a plane

module _ (top stride : ℕ) (kept keep : ℕ → Bool) (columns rows size : ℕ) (same : (k : ℕ) → k % stride < columns → k / stride < rows → kept k ≡ keep k) where
  abbrev Here : Edge → Type 0
  Here e = InPlane stride columns rows e size

  stores_same : (e : Edge) (l : List ℕ) → Here e → open_stores top stride kept e l ≡ open_stores top stride keep e l
  stores_same e l h = open_same top stride kept keep e h (λ k t. let q = stored_inside stride e h k t in same k q.0 q.1) l

  segment_same : (e : Edge) (l : List ℕ) → Here e → segment_of top stride kept e l ≡ segment_of top stride keep e l
  unfolding segment_of
  segment_same e l h = ap (λ (x : List Store). puts x l) (stores_same e l h)

  module _ (es : List Edge) (h : Each Here es) (l : List ℕ) where
    pub run_same : run_edges top stride kept es l ≡ run_edges top stride keep es l
    unfolding run_edges
    run_same = run_twin (segment_of top stride kept) (segment_of top stride keep) Here segment_same es h l

    pub stored_same : stored_by top stride kept es l ≡ stored_by top stride keep es l
    unfolding stored_by stored_at
    stored_same =
        total_twin (segment_of top stride kept) (segment_of top stride keep) Here segment_same (stored_at top stride kept) (stored_at top stride keep)
        (λ e m k. ap length (stores_same e m k)) es h l

    pub changed_same : changed_by top stride kept es l ≡ changed_by top stride keep es l
    unfolding changed_by changed_at
    changed_same =
        total_twin (segment_of top stride kept) (segment_of top stride keep) Here segment_same (changed_at top stride kept) (changed_at top stride keep)
        (λ e m k. ap (λ (x : List Store). changes x m) (stores_same e m k)) es h l

-- ---- a kept sample is as it was after a run

pub run_holds : (top stride : ℕ) (kept : ℕ → Bool) (es : List Edge) (l : List ℕ) (i : ℕ) → kept i ≡ true → get_or (run_edges top stride kept es l) i 0 ≡ get_or l i 0
unfolding run_edges
run_holds top stride kept [] l i h = refl
run_holds top stride kept (e ∷ es) l i h = run_holds top stride kept es (segment_of top stride kept e l) i h ∙ edge_holds top stride kept e l i h

-- ---- marks that agree on the cells of a plane

-- the cell of a sample is one of the plane's
cell_in : (cols rows x y : ℕ) → x < 4 * cols → y < 4 * rows → y / 4 * cols + x / 4 < rows * cols
cell_in cols rows x y hx hy =
    let a : y / 4 + 1 ≤ rows = omega arith in
    omega (arith, mul-le-mul_right cols a, add-mul (y / 4) 1 cols)

-- marks that agree on every cell keep the same samples
pub marks_agree : (cols rows stride : ℕ) (keep front : List ℕ) → ((k : ℕ) → k < rows * cols → get_or front k 0 ≡ get_or keep k 0)
    → (k : ℕ) → k % stride < 4 * cols → k / stride < 4 * rows → kept_in cols stride front k ≡ kept_in cols stride keep k
unfolding kept_in
marks_agree cols rows stride keep front same k hx hy = ap (λ (m : ℕ). eqb m 1) (same _ (cell_in cols rows (k % stride) (k / stride) hx hy))

-- marks of 0 keep none
pub marks_none : (cols rows stride : ℕ) (keep : List ℕ) → ((k : ℕ) → k < rows * cols → get_or keep k 0 ≡ 0) → (k : ℕ) → k % stride < 4 * cols → k / stride < 4 * rows → kept_in cols stride keep k ≡ none_kept k
unfolding kept_in
marks_none cols rows stride keep same k hx hy = ap (λ (m : ℕ). eqb m 1) (same _ (cell_in cols rows (k % stride) (k / stride) hx hy))
