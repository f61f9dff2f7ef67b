-- Ticket 4 of whatever `deblock_plane` may answer, as ticket 7 amends it: stored is at most the sum of 4(n+w) over the visited edges, at most 64 for each of at most
-- 2·cols·rows - cols - rows edges; changed is never more; both fit 64 bits with much to spare; and a refusal reports zero for both.
-- Assumes nothing.
use mathlib.Core.Path.{◌≡◌, refl, sym, ap, ◌∙◌}
use mathlib.Core.Bool.{Bool}
use mathlib.Core.List.{List}
use Prim.Native.Nat.{ℕ, ◌+◌, ◌*◌, ◌-◌, ◌≤◌}
use native.Mathlib.Nat.{le_antisymm, mul-le-mul, mul_comm, mul_assoc}
use native.Mathlib.Decide.{dec_le}
use native.Mathlib.Omega.{arith}
use lib.Dec.{leb}
use lib.ListN.{length}
use Rattle.laws.specs.Choose.{is_le, not_le, pick_yes, pick_no}
use Rattle.laws.specs.Sums.{one_fewer}
use Rattle.rules.specs.declared.edge.Edge.{Edge}
use Rattle.rules.specs.declared.settings.Plane.{Plane}
use Rattle.rules.specs.declared.refusals.Refusal.{Refusal}
use Rattle.rules.specs.Refusals.{Answer}
use Rattle.std.specs.declared.result.Result.TheVariants.{Ok, Err}
use Rattle.std.specs.declared.result.Result.{Result}
use Rattle.rules.specs.declared.counts.Counts.{Counts}
use Rattle.rules.specs.Refusals.{answered, changed_in, stored_in}
use Rattle.rules.specs.Numbers.{top_of}
use Rattle.rules.specs.Refusals.{settle}
use Rattle.rules.specs.Segment.{none_kept, width_at, segment_of}
use Rattle.rules.specs.Counts.{stored_at, stored_by}
use Rattle.rules.specs.Plane.{Grid, kept_by, edges_of, run_stored, run_changed, plane_check, plane_stored, plane_changed}
use Rattle.segment.specs.Promises.{narrow_at}
use Rattle.segment.proofs.Counts.{stored_is, stored_within, total_le, run_changed_holds}
use Rattle.cell_edges.specs.Cells.{Sizes}
use Rattle.plane.specs.Checked.{Stated}
use Rattle.plane.proofs.Accepting.{checked}
use Rattle.orders.proofs.Once.{edges_most, stores_most}
use Rattle.promises.specs.Counts.{by_widths, sum_by_widths, most_edges}

-- ---- one edge, and a run

module _ (stride : ℕ) (e : Edge) (l : List ℕ) where
  widths_are : 4 * (narrow_at stride e l + width_at stride e l) ≡ by_widths stride e l
  unfolding by_widths
  widths_are = elim (dec_le 1 (width_at stride e l)) [
    | yes h ↦ pick_yes _ (4 * (narrow_at stride e l + width_at stride e l)) 0 _ (is_le 1 (width_at stride e l) h) refl
    | no h ↦ pick_no _ (4 * (narrow_at stride e l + width_at stride e l)) 0 _ (not_le 1 (width_at stride e l) (omega arith)) (omega arith)
  ]

  stored_widths : (top : ℕ) (kept : ℕ → Bool) → stored_at top stride kept e l ≤ by_widths stride e l
  stored_widths top kept = omega (arith, stored_within top stride kept e l, widths_are)

-- an edge's stores are at most 4(n+w), and just as many where nothing is kept
module _ (s : Plane) (es : List Edge) (l : List ℕ) where
  sum_most : (kept : ℕ → Bool) → stored_by (top_of s.depth) s.stride kept es l ≤ sum_by_widths s kept es l
  unfolding stored_by
  sum_most kept =
      let top = top_of s.depth in
      total_le (segment_of top s.stride kept) (stored_at top s.stride kept) (by_widths s.stride) (λ e m. stored_widths s.stride e m top kept) es l

  pub sum_widths : stored_by (top_of s.depth) s.stride none_kept es l ≡ sum_by_widths s none_kept es l
  unfolding stored_by
  sum_widths =
      let top = top_of s.depth in
      le_antisymm
      (total_le (segment_of top s.stride none_kept) (stored_at top s.stride none_kept) (by_widths s.stride) (λ e m. stored_widths s.stride e m top none_kept) es l)
      (total_le (segment_of top s.stride none_kept) (by_widths s.stride) (stored_at top s.stride none_kept) (λ e m. omega (arith, stored_is top s.stride none_kept e m (λ k. refl), widths_are s.stride e m)) es l)

-- ---- an accepted plane

-- the largest plane has 1024 by 1024 cells
pub largest : (s : Plane) → Sizes s → most_edges s ≤ 2095104
largest s z =
    let less_rows : s.rows - 1 ≤ 1023 = omega (arith, z.rows_most) in
    let less_cols : s.cols - 1 ≤ 1023 = omega (arith, z.cols_most) in
    let horizontal : s.cols * (s.rows - 1) ≤ 1024 * 1023 = mul-le-mul z.cols_most less_rows in
    let vertical : s.rows * (s.cols - 1) ≤ 1024 * 1023 = mul-le-mul z.rows_most less_cols in
    omega (arith, one_fewer s.rows s.cols z.some_cols, one_fewer s.cols s.rows z.some_rows, mul_comm s.rows s.cols, mul_assoc 2 s.cols s.rows)

module _ (s : Plane) (steps : List ℕ) (g : Grid) (l : List ℕ) where
  pub plane_sum : run_stored s steps g l ≤ sum_by_widths s (kept_by s g) (edges_of s steps g) l
  unfolding run_stored
  plane_sum = sum_most s (edges_of s steps g) l (kept_by s g)

  pub plane_changed_holds : run_changed s steps g l ≤ run_stored s steps g l
  unfolding run_stored run_changed
  plane_changed_holds = run_changed_holds (top_of s.depth) s.stride (kept_by s g) (edges_of s steps g) l

  module _ (ok : plane_check s steps g l ≡ Ok tt) where
    pub plane_edges : length (edges_of s steps g) ≤ most_edges s
    plane_edges = edges_most s steps g (checked s steps g l ok).sizes_ok

    pub plane_stored_holds : run_stored s steps g l ≤ most_edges s * 64
    plane_stored_holds = omega (arith, stores_most s steps g l ok, plane_edges)

    pub plane_fits : run_stored s steps g l ≤ 134086656
    plane_fits = omega (arith, plane_stored_holds, largest s (checked s steps g l ok).sizes_ok)

  -- ---- whatever the entry may answer

  module _ {a : Result Counts Refusal} {m : List ℕ} (done : Stated s steps g l a m) where
    pub counts_sum : answered a ≡ Ok tt → stored_in a ≤ sum_by_widths s (kept_by s g) (edges_of s steps g) l
    unfolding plane_stored settle
    counts_sum e = omega (arith, done.stored ∙ ap (λ (x : Answer). settle x 0 (run_stored s steps g l)) (sym done.answer ∙ e), plane_sum)

    pub counts_most : (stored_in a ≤ most_edges s * 64) × (changed_in a ≤ stored_in a) × (stored_in a ≤ 134086656)
    unfolding plane_stored plane_changed settle
    counts_most = go (plane_check s steps g l) refl done.stored done.changed
      where
        go : (x : Answer) → plane_check s steps g l ≡ x → {u v : ℕ} → u ≡ settle x 0 (run_stored s steps g l) → v ≡ settle x 0 (run_changed s steps g l) → (u ≤ most_edges s * 64) × (v ≤ u) × (u ≤ 134086656)
        go (Ok tt) ok p q = (omega (arith, p, plane_stored_holds ok), omega (arith, p, q, plane_changed_holds), omega (arith, p, plane_fits ok))
        go (Err r) ok p q = (omega (arith, p), omega (arith, p, q), omega (arith, p))

    -- "A refusal reports zero for both."
    pub counts_refused : {r : Refusal} → answered a ≡ Err r → (stored_in a ≡ 0) × (changed_in a ≡ 0)
    unfolding plane_stored plane_changed settle
    counts_refused e =
        let no = sym done.answer ∙ e in (
          done.stored ∙ ap (λ (x : Answer). settle x 0 (run_stored s steps g l)) no,
          done.changed ∙ ap (λ (x : Answer). settle x 0 (run_changed s steps g l)) no,
        )
