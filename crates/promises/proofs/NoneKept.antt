-- Ticket 7: "Without kept cells all answers stay." The answer is that of document 01's checks whichever cells are kept, as long as each mark is 0 or 1; with every mark 0
-- plane and counts are those of every store of every edge. Assumes nothing.
use mathlib.Core.Path.{◌≡◌, refl, sym, ap, ap₂, ◌∙◌}
use mathlib.Core.Bool.{Bool, true, false}
use mathlib.Core.List.{List, [], ◌∷◌, ◌++◌}
use Prim.Native.Nat.{ℕ, zero, suc, ◌+◌, ◌*◌, ◌≤◌, ◌<◌}
use native.Mathlib.Nat.{le_refl, le_step}
use borrow.Author.Tests.{le-leb}
use lib.Dec.{leb}
use lib.ListN.{length, get_or}
use Rattle.laws.specs.Choose.{all}
use Rattle.laws.specs.Stores.{Store, puts}
use Rattle.laws.specs.Changes.{changes}
use Rattle.laws.specs.Outside.{outside_nothing}
use Rattle.laws.specs.Trace.{run, total}
use Rattle.rules.specs.declared.edge.Edge.{Edge}
use Rattle.rules.specs.declared.settings.Plane.{Plane}
use Rattle.rules.specs.declared.refusals.Refusal.TheVariants.{Depth, Size, Length, Cell, Room, Sample}
use Rattle.rules.specs.Refusals.{Answer}
use Rattle.std.specs.declared.result.Result.TheVariants.{Ok}
use Rattle.std.specs.declared.result.Result.{Result}
use Rattle.rules.specs.declared.counts.Counts.{Counts}
use Rattle.rules.specs.declared.refusals.Refusal.{Refusal}
use Rattle.rules.specs.Refusals.{answered, changed_in, stored_in}
use Rattle.std.specs.declared.option.Option.{Option}
use Rattle.rules.specs.Numbers.{depth_ok, top_of}
use Rattle.rules.specs.Refusals.{or_else, unless, found, settle, first, sooner, found_unless}
use Rattle.rules.specs.Thresholds.{steps_check, deltas_check}
use Rattle.rules.specs.Segment.{none_kept, open_stores, segment_of, run_edges}
use Rattle.rules.specs.Counts.{stored_at, changed_at, stored_by, changed_by}
use Rattle.rules.specs.Plane.{Grid, is_edge, index_at, shortened_at, marks_of, indices_of, edge_at, visit_of, sweep_of, column_of, turn_of, edges_of, edge_room, lacks_room, lacks_row, lacks_dir}
use Rattle.rules.specs.Plane.{run_plane, run_stored, run_changed, plane_sizes_ok, plane_lengths_ok, tiles_check, cell_good, bad_cell, no_room, over_plane, plane_check, plane_after, plane_stored, plane_changed}
use Rattle.kept.proofs.Same.{marks_none}
use Rattle.plane.specs.Checked.{Stated}
use Rattle.plane.proofs.Accepting.{checked}
use Rattle.plane.proofs.Marked.{plane_run, plane_stored_holds, plane_changed_holds}
use Rattle.promises.specs.Counts.{sum_by_widths}
use Rattle.promises.specs.NoneKept.{unmarked, lengths_before, good_before, check_before, stores_before, segment_before, run_before, stored_before, changed_before}
use Rattle.promises.proofs.Counts.{sum_widths}

-- a last test that holds
pub all_but : (bs : List Bool) → all (bs ++ (true ∷ [])) ≡ all bs
unfolding all
all_but [] = refl
all_but (true ∷ bs) = all_but bs
all_but (false ∷ bs) = refl

first_same : (f g : ℕ → Option ℕ) (n : ℕ) → ((k : ℕ) → k < n → f k ≡ g k) → first n f ≡ first n g
unfolding first
first_same f g zero h = refl
first_same f g (suc n) h = ap₂ sooner (first_same f g n (λ k l. h k (le_step l))) (h n (le_refl (suc n)))

-- ---- neither the edges nor their room go by the marks

module _ (s : Plane) (steps : List ℕ) (g : Grid) where
  pub edges_unmarked : edges_of s steps g ≡ edges_of s steps (unmarked g)
  unfolding edges_of turn_of column_of sweep_of visit_of is_edge edge_at index_at shortened_at marks_of indices_of
  edges_unmarked = refl

  pub room_unmarked : no_room s g ≡ no_room s (unmarked g)
  unfolding no_room lacks_dir lacks_row lacks_room edge_room is_edge index_at shortened_at marks_of indices_of
  room_unmarked = refl

-- ---- good marks change no answer

module _ (s : Plane) (steps : List ℕ) (g : Grid) (l : List ℕ) (long : s.rows * s.cols ≤ length g.keep) (good : (k : ℕ) → k < s.rows * s.cols → get_or g.keep k 0 ≤ 1) where
  same_lengths : plane_lengths_ok s g (length l) ≡ lengths_before s (unmarked g) (length l)
  unfolding plane_lengths_ok lengths_before
  same_lengths = rw (le-leb _ _ long) (all_but _)

  same_cell : (k : ℕ) → k < s.rows * s.cols → cell_good g k ≡ good_before (unmarked g) k
  unfolding cell_good good_before
  same_cell k h = rw (le-leb _ _ (good k h)) (all_but _)

  same_cells : bad_cell s g ≡ first (s.rows * s.cols) (λ k. found_unless (good_before (unmarked g) k) k)
  unfolding bad_cell
  same_cells = first_same _ _ (s.rows * s.cols) (λ k h. ap (λ (b : Bool). found_unless b k) (same_cell k h))

  pub answer_before : plane_check s steps g l ≡ check_before s steps (unmarked g) l
  unfolding plane_check check_before
  answer_before = rw (same_lengths, same_cells, room_unmarked s steps g)

-- ---- nothing kept: every store

module _ (top stride : ℕ) where
  all_stores : (e : Edge) (l : List ℕ) → open_stores top stride none_kept e l ≡ stores_before top stride e l
  all_stores e l = outside_nothing none_kept (λ k. refl) (stores_before top stride e l)

  all_put : (e : Edge) (l : List ℕ) → segment_of top stride none_kept e l ≡ segment_before top stride e l
  unfolding segment_of
  all_put e l = ap (λ (x : List Store). puts x l) (all_stores e l)

  all_run : (es : List Edge) (l : List ℕ) → run_edges top stride none_kept es l ≡ run_before top stride es l
  unfolding run_edges run_before
  all_run [] l = refl
  all_run (e ∷ es) l = ap (λ (m : List ℕ). run (segment_of top stride none_kept) es m) (all_put e l) ∙ all_run es (segment_before top stride e l)

  all_stored : (es : List Edge) (l : List ℕ) → stored_by top stride none_kept es l ≡ stored_before top stride es l
  unfolding stored_by stored_at stored_before
  all_stored [] l = refl
  all_stored (e ∷ es) l =
      ap₂ (λ (a b : ℕ). a + b) (ap length (all_stores e l))
      (ap (λ (m : List ℕ). total (segment_of top stride none_kept) (stored_at top stride none_kept) es m) (all_put e l) ∙ all_stored es (segment_before top stride e l))

  all_changed : (es : List Edge) (l : List ℕ) → changed_by top stride none_kept es l ≡ changed_before top stride es l
  unfolding changed_by changed_at changed_before
  all_changed [] l = refl
  all_changed (e ∷ es) l =
      ap₂ (λ (a b : ℕ). a + b) (ap (λ (x : List Store). changes x l) (all_stores e l))
      (ap (λ (m : List ℕ). total (segment_of top stride none_kept) (changed_at top stride none_kept) es m) (all_put e l) ∙ all_changed es (segment_before top stride e l))

-- ---- marks of 0

module _ (s : Plane) (steps : List ℕ) (g : Grid) (l : List ℕ) (none : (k : ℕ) → k < s.rows * s.cols → get_or g.keep k 0 ≡ 0) where
  module _ (ok : plane_check s steps g l ≡ Ok tt) where
    pub plane_unkept : run_plane s steps g l ≡ run_before (top_of s.depth) s.stride (edges_of s steps (unmarked g)) l
    plane_unkept =
        sym (plane_run s steps g l (checked s steps g l ok) none_kept (λ i x y. sym (marks_none s.cols s.rows s.stride g.keep none i x y)))
        ∙ rw (edges_unmarked s steps g) (all_run (top_of s.depth) s.stride (edges_of s steps (unmarked g)) l)

    stored_noted : run_stored s steps g l ≡ stored_by (top_of s.depth) s.stride none_kept (edges_of s steps g) l
    stored_noted = sym (plane_stored_holds s steps g l (checked s steps g l ok) none_kept (λ i x y. sym (marks_none s.cols s.rows s.stride g.keep none i x y)))

    pub stored_unkept : run_stored s steps g l ≡ stored_before (top_of s.depth) s.stride (edges_of s steps (unmarked g)) l
    stored_unkept = stored_noted ∙ rw (edges_unmarked s steps g) (all_stored (top_of s.depth) s.stride (edges_of s steps (unmarked g)) l)

    pub changed_unkept : run_changed s steps g l ≡ changed_before (top_of s.depth) s.stride (edges_of s steps (unmarked g)) l
    changed_unkept =
        sym (plane_changed_holds s steps g l (checked s steps g l ok) none_kept (λ i x y. sym (marks_none s.cols s.rows s.stride g.keep none i x y)))
        ∙ rw (edges_unmarked s steps g) (all_changed (top_of s.depth) s.stride (edges_of s steps (unmarked g)) l)

    -- ticket 4's own words again: "Stored is 4(n+w) for each edge with w at least 1"
    pub sum_unkept : run_stored s steps g l ≡ sum_by_widths s none_kept (edges_of s steps g) l
    sum_unkept = stored_noted ∙ sum_widths s (edges_of s steps g) l

  -- of whatever the entry may answer and leave
  pub stated_unkept : {a : Result Counts Refusal} {m : List ℕ} → Stated s steps g l a m → answered a ≡ Ok tt
      → (m ≡ run_before (top_of s.depth) s.stride (edges_of s steps (unmarked g)) l) × (stored_in a ≡ stored_before (top_of s.depth) s.stride (edges_of s steps (unmarked g)) l)
      × (changed_in a ≡ changed_before (top_of s.depth) s.stride (edges_of s steps (unmarked g)) l)
  unfolding plane_after plane_stored plane_changed settle
  stated_unkept done e =
      let ok : plane_check s steps g l ≡ (Ok tt) = sym done.answer ∙ e in (
        done.plane ∙ ap (λ (x : Answer). settle x l (run_plane s steps g l)) ok ∙ plane_unkept ok,
        done.stored ∙ ap (λ (x : Answer). settle x 0 (run_stored s steps g l)) ok ∙ stored_unkept ok,
        done.changed ∙ ap (λ (x : Answer). settle x 0 (run_changed s steps g l)) ok ∙ changed_unkept ok,
      )
