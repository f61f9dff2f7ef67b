-- The edges of a band: what its two sweeps ask and leave, and that the whole plane's are the plain order.
-- Assumes nothing.
use mathlib.Core.Path.{◌≡◌, refl, ap, ap₂, ◌∙◌}
use mathlib.Core.List.{List, ◌++◌}
use Prim.Native.Nat.{ℕ, ◌+◌, ◌*◌, ◌-◌, ◌≤◌, ◌<◌}
use native.Mathlib.Nat.{le_refl}
use native.Mathlib.Decide.{dec_le}
use native.Mathlib.Omega.{arith}
use lib.ListN.{length, take}
use Rattle.laws.specs.Choose.{pick}
use Rattle.laws.specs.Lists.{Each, each_append}
use Rattle.laws.specs.Trace.{run_then}
use Rattle.rules.specs.declared.edge.Edge.{Edge}
use Rattle.rules.specs.declared.settings.Plane.{Plane}
use Rattle.rules.specs.Numbers.{top_of}
use Rattle.rules.specs.Segment.{kept_in, run_edges}
use Rattle.rules.specs.Counts.{stored_by, changed_by}
use Rattle.rules.specs.Plane.{Grid, keeping, kept_by, marks_of, indices_of, index_at, shortened_at, edge_at, is_edge, visit_of, sweep_of}
use Rattle.rules.specs.Rows.{ready, band_of}
use Rattle.checks.specs.Asked.{Asked}
use Rattle.segment.specs.Fit.{InPlane}
use Rattle.segment.proofs.Counts.{stored_then, changed_then}
use Rattle.kept.proofs.Same.{marks_agree, run_same, stored_same, changed_same}
use Rattle.cell_edges.specs.Cells.{one_way}
use Rattle.rules.specs.declared.counts.Visited.{Visited}
use Rattle.plane.specs.Run.{Table, PartOf, none, state, Ran}
use Rattle.plane.specs.Checked.{Checked}
use Rattle.plane.proofs.Runs.{step_of}
use Rattle.plane.proofs.Everywhere.{both_clear, sweep_inside}
use Rattle.orders.specs.Walks.{plain_of}
use Rattle.orders.proofs.Bands.{ready_full, ready_part, ready_up}
use Rattle.bands.specs.Ran.{RanBand}

-- ---- the parts, and the counts

-- all columns of so many rows
pub part_in : (s : Plane) (row rows : ℕ) → row + rows ≤ s.rows → PartOf s (record { row = row; rows = rows; col = 0; cols = s.cols })
part_in s row rows h = record { rows_in = h; cols_in = omega arith }

pub ready_none : (rows a : ℕ) → a < rows → a ≡ 0 → 0 ≡ ready rows a
ready_none rows a h e = omega (arith, ready_part rows a h)

ready_zero : (rows : ℕ) → ready rows 0 ≡ 0
ready_zero rows = elim (dec_le rows 0) [
  | yes h ↦ omega (arith, ready_full rows 0 h)
  | no h ↦ omega (arith, ready_part rows 0 (omega arith))
]

-- the horizontal edges that are done grow with the rows that are filled, and are never more than the plane has
pub ready_goes : {rows h a from upto : ℕ} → h ≤ a → a ≤ rows → from ≡ ready rows h → upto ≡ ready rows a → (from ≤ upto) × (upto ≤ rows)
ready_goes {rows} {h} {a} up most f u = (
  omega (arith, f, u, ready_up rows h a up most),
  omega (arith, u, ready_up rows a rows most (le_refl rows), ready_full rows rows (le_refl rows)),
)

-- ---- the edges

-- of all rows: the plain order
pub whole_band : (s : Plane) (steps : List ℕ) (g : Grid) → band_of s steps g 0 s.rows ≡ plain_of s steps g
unfolding band_of plain_of
whole_band s steps g =
    let none = ready_zero s.rows in
    let all : ready s.rows s.rows - ready s.rows 0 ≡ s.rows = omega (arith, none, ready_full s.rows s.rows (le_refl s.rows)) in
    let rows : s.rows - 0 ≡ s.rows = omega arith in
    ap₂ (λ (x y : List Edge). x ++ y)
    (ap (λ (n : ℕ). sweep_of s steps g 0 0 n 0 s.cols) rows)
    (ap₂ (λ (m n : ℕ). sweep_of s steps g 1 m n 0 s.cols) none all)

-- every edge of a band has room
pub band_inside : (s : Plane) (steps : List ℕ) (g : Grid) (size : ℕ) → Checked s steps g size → (h a : ℕ) → h ≤ a → a ≤ s.rows
    → Each (λ e. InPlane s.stride (4 * s.cols) (4 * s.rows) e size) (band_of s steps g h a)
unfolding band_of
band_inside s steps g size k h a up most =
    let goes = ready_goes {rows = s.rows} up most refl refl in
    let clear = both_clear s steps g size k in
    each_append (λ (e : Edge). InPlane s.stride (4 * s.cols) (4 * s.rows) e size) (sweep_of s steps g 0 h (a - h) 0 s.cols) _
    (sweep_inside s steps g size k 0 h (a - h) 0 s.cols clear.0 (omega arith) (omega arith))
    (sweep_inside s steps g size k 1 (ready s.rows h) (ready s.rows a - ready s.rows h) 0 s.cols clear.1 (omega (arith, goes.0, goes.1)) (omega arith))

-- ---- each direction reads its own lists of the whole grid

module _ (s : Plane) (steps v h w t q ts ks : List ℕ) (row rows : ℕ) where
  vert_same : sweep_of s steps (one_way v w q ts) 0 row rows 0 s.cols ≡ sweep_of s steps (keeping v h w t q ts ks) 0 row rows 0 s.cols
  unfolding sweep_of visit_of is_edge edge_at index_at shortened_at marks_of indices_of pick
  vert_same = refl

  horz_same : sweep_of s steps (one_way h t q ts) 1 row rows 0 s.cols ≡ sweep_of s steps (keeping v h w t q ts ks) 1 row rows 0 s.cols
  unfolding sweep_of visit_of is_edge edge_at index_at shortened_at marks_of indices_of pick
  horz_same = refl

-- the vertical edges, and then the horizontal ones on what those left; the record's buffer is empty each time
pub ran_band : {s : Plane} {steps : List ℕ} (v h w t q ts ks : List ℕ) {table : List ℕ} → Table s steps ts table
    → (i a from upto : ℕ) → from ≡ ready s.rows i → upto ≡ ready s.rows a
    → (l : List ℕ) {m o b c d e : List ℕ} {x y : Visited} → Ran s table ks (λ st us. sweep_of s st (one_way v w q us) 0 i (a - i) 0 s.cols) (state l b none) (state m c x)
    → Ran s table ks (λ st us. sweep_of s st (one_way h t q us) 1 from (upto - from) 0 s.cols) (state m d x) (state o e y) → RanBand s steps (keeping v h w t q ts ks) i a l y o
unfolding band_of run_edges
ran_band {s} {steps} v h w t q ts ks of i a from upto f u l {m} {o} {x = x} {y} one two =
    let g = keeping v h w t q ts ks in
    let xs = sweep_of s steps g 0 i (a - i) 0 s.cols in
    let ys = sweep_of s steps g 1 (ready s.rows i) (ready s.rows a - ready s.rows i) 0 s.cols in
    let left : m ≡ run_edges (top_of s.depth) s.stride (kept_by s g) xs l = rw (vert_same s steps v h w t q ts ks i (a - i)) at (one.is steps ts of) in
    let last : o ≡ run_edges (top_of s.depth) s.stride (kept_by s g) ys m = rw (horz_same s steps v h w t q ts ks from (upto - from), f, u) at (two.is steps ts of) in
    let first_stored : x.stored ≡ 0 + stored_by (top_of s.depth) s.stride (kept_by s g) xs l = rw (vert_same s steps v h w t q ts ks i (a - i)) at (one.stored steps ts of) in
    let then_stored : y.stored ≡ x.stored + stored_by (top_of s.depth) s.stride (kept_by s g) ys m = rw (horz_same s steps v h w t q ts ks from (upto - from), f, u) at (two.stored steps ts of) in
    let first_changed : x.changed ≡ 0 + changed_by (top_of s.depth) s.stride (kept_by s g) xs l = rw (vert_same s steps v h w t q ts ks i (a - i)) at (one.changed steps ts of) in
    let then_changed : y.changed ≡ x.changed + changed_by (top_of s.depth) s.stride (kept_by s g) ys m = rw (horz_same s steps v h w t q ts ks from (upto - from), f, u) at (two.changed steps ts of) in
    record {
      plane = run_then (step_of s ks) xs ys l left last;
      stored = omega (arith, stored_then (top_of s.depth) s.stride (kept_by s g) xs ys l 0 left first_stored then_stored);
      changed = omega (arith, changed_then (top_of s.depth) s.stride (kept_by s g) xs ys l 0 left first_changed then_changed);
    }

-- the keep marks that were asked for are enough
pub band_asked : {s : Plane} {steps : List ℕ} (v h w t q ts ks : List ℕ) {n : ℕ} (i a : ℕ) (l : List ℕ) {x : Visited} {m : List ℕ} → Checked s steps (keeping v h w t q ts ks) (length l) → i ≤ a → a ≤ s.rows
    → Asked (s.rows * s.cols) ks n → RanBand s steps (keeping v h w t q ts (take n ks)) i a l x m → RanBand s steps (keeping v h w t q ts ks) i a l x m
unfolding band_of sweep_of visit_of is_edge edge_at index_at shortened_at marks_of indices_of
band_asked {s} {steps} v h w t q ts ks {n} i a l k up most asked run =
    let g = keeping v h w t q ts ks in
    let top = top_of s.depth in
    let front = kept_in s.cols s.stride (take n ks) in
    let same = marks_agree s.cols s.rows s.stride ks (take n ks) asked.same in
    let inside = band_inside s steps g (length l) k i a up most in
    record {
      plane = run.plane ∙ run_same top s.stride front (kept_by s g) (4 * s.cols) (4 * s.rows) (length l) same (band_of s steps g i a) inside l;
      stored = run.stored ∙ stored_same top s.stride front (kept_by s g) (4 * s.cols) (4 * s.rows) (length l) same (band_of s steps g i a) inside l;
      changed = run.changed ∙ changed_same top s.stride front (kept_by s g) (4 * s.cols) (4 * s.rows) (length l) same (band_of s steps g i a) inside l;
    }
