-- The entries of a record: where each lies, what a check that passed says of each, and the run of them one after the other.
-- Assumes nothing.
use Rattle.std.proofs.Common.{◌≡◌, ℕ, ◌+◌, ◌-◌, ◌*◌, ◌%◌, ◌<◌, ◌≤◌, Bool, true, false, not, List, [], ◌∷◌, ◌++◌, length, sym, refl, ap, ◌∙◌, mul-le-mul, le_antisymm, arith, leb-true}
use Rattle.laws.specs.Choose.{all_parts, is_eq, not_eq, told_yes_not, told_no_not}
use Rattle.laws.specs.Loops.{each, each_more}
use Rattle.laws.specs.Trace.{run_then}
use Rattle.rules.specs.declared.edge.Edge.{Edge}
use Rattle.rules.specs.declared.settings.Replay.{Replay}
use Rattle.std.specs.declared.option.Option.{Option}
use Rattle.std.specs.declared.option.Option.TheVariants.{Some, None}
use Rattle.rules.specs.Numbers.{top_of}
use Rattle.rules.specs.Refusals.{first, found_unless}
use Rattle.rules.specs.Segment.{ranges_ok, has_room, segment_of, run_edges}
use Rattle.rules.specs.Counts.{stored_at, changed_at, stored_by, changed_by}
use Rattle.rules.specs.Record.{edge_in, entry_at, entry_count, edges_in}
use Rattle.rules.specs.Replay.{replay_sizes_ok, header_ok, cut_entry, first_entry}
use Rattle.checks.proofs.First.{first_more, first_found, first_end, found_unless_holds, found_unless_not, nothing_all, unless_nothing}
use Rattle.checks.proofs.Ranges.{in_range_holds}
use Rattle.lengths.proofs.Inside.{Ranges, ranges_are}
use Rattle.segment.specs.declared.outcome.Outcome.{Outcome}
use Rattle.segment.specs.Fit.{InPlane, EdgeFiltered}
use Rattle.segment.proofs.Counts.{one_stored, one_changed, stored_then, changed_then}
use Rattle.replay.specs.Fit.{Sized, Ranged, Runnable, in_word, held, Ran}

-- ---- where an entry lies

pub entry_inside : (bytes : List ℕ) (k : ℕ) → k < entry_count bytes → 5 + 10 * k + 10 ≤ length bytes
unfolding entry_count
entry_inside bytes k h = omega arith

-- ---- what a check that passed says

pub sized_of : (s : Replay) → true ≡ replay_sizes_ok s → Sized s
unfolding replay_sizes_ok
sized_of s h =
    let p = all_parts _ _ (sym h) in
    let q = all_parts _ _ p.1 in
    let r = all_parts _ _ q.1 in
    let x = in_range_holds 1 1024 s.cols p.0 in
    let y = in_range_holds 1 1024 s.rows q.0 in
    let z = in_range_holds (4 * s.cols) 8192 s.stride r.0 in
    record { cols_most = x.1; rows_most = y.1; row = z.0; stride_most = z.1 }

pub header_there : (bytes : List ℕ) → true ≡ header_ok bytes → 5 ≤ length bytes
unfolding header_ok
header_there bytes h = leb-true 5 (length bytes) (all_parts _ _ (sym h)).0

-- the bytes after the header are whole entries, or not
pub cut_at : (bytes : List ℕ) (n : ℕ) → n ≡ entry_count bytes → ((length bytes - 5) % 10 ≡ 0 → ⊥) → Some n ≡ cut_entry bytes
unfolding cut_entry
cut_at bytes n e h = ap Some e ∙ found_unless_holds _ _ (not_eq _ _ h)

pub cut_none : (bytes : List ℕ) → (length bytes - 5) % 10 ≡ 0 → None ≡ cut_entry bytes
unfolding cut_entry
cut_none bytes h = found_unless_not _ _ (is_eq _ _ h)

-- the samples of a plane are few
pub samples_most : {s : Replay} → Sized s → 4 * s.rows * s.stride ≤ 33554432
samples_most {s} z =
    let r = z.rows_most in
    mul-le-mul (let e : 4 * s.rows ≤ 4096 = omega arith in e) z.stride_most

-- and so are its cells
pub cells_most : {s : Replay} → Sized s → s.rows * s.cols ≤ 1048576
cells_most z = mul-le-mul z.rows_most z.cols_most

module _ (bytes : List ℕ) (k : ℕ) (h : k < entry_count bytes) {e : Edge} (is : e ≡ edge_in bytes (entry_at k)) where
  -- an entry that passed a test of every entry
  pub entry_good : (good : Edge → Bool) → first_entry good bytes ≡ None → good e ≡ true
  unfolding first_entry
  entry_good good n = rw is (unless_nothing _ k (nothing_all _ _ n k h))

  entry_ranges : Ranged bytes → Ranges e
  entry_ranges r = ranges_are e (entry_good ranges_ok r.entries_ok)

  pub pair_below : Ranged bytes → e.pair < 8
  pair_below r = let p = entry_ranges r in omega arith

  -- an entry of a record that was checked may be run
  pub entry_runs : {s : Replay} {size top : ℕ} → Runnable s bytes size top → InPlane s.stride (4 * s.cols) (4 * s.rows) e size
  entry_runs {s} r =
      let p = entry_ranges r.ranged in
      record {
        pair_is = pair_below r.ranged;
        q_most = p.q_most;
        side_most = p.side_most;
        row = r.sized.row;
        plane = r.plane_long;
        room = entry_good (has_room (4 * s.cols) (4 * s.rows)) r.room;
      }

-- ---- the search for the first bad entry, by any test of an edge

abbrev pub good_at : List ℕ → (Edge → Bool) → ℕ → Option ℕ
good_at bytes good j = found_unless (good (edge_in bytes (entry_at j))) j

module _ (bytes : List ℕ) (good : Edge → Bool) (k : ℕ) (before : first k (good_at bytes good) ≡ None) where
  pub entry_more : {e : Edge} {u : Bool} → e ≡ edge_in bytes (entry_at k) → u ≡ good e → not u ≡ false → first (k + 1) (good_at bytes good) ≡ None
  entry_more is says ok = first_more (good_at bytes good) k before (found_unless_not _ k (told_yes_not _ _ (says ∙ ap good is) ok))

  pub entry_found : (n : ℕ) {e : Edge} {u : Bool} → n ≡ entry_count bytes → e ≡ edge_in bytes (entry_at k) → u ≡ good e → not u ≡ true → k < n
      → Some k ≡ first_entry good bytes
  unfolding first_entry
  entry_found n all is says no-good h =
      first_found (good_at bytes good) k (entry_count bytes) before (found_unless_holds _ k (told_no_not _ _ (says ∙ ap good is) no-good)) (omega arith)

  pub entry_end : (n : ℕ) → n ≡ entry_count bytes → k ≤ n → n ≤ k → None ≡ first_entry good bytes
  unfolding first_entry
  entry_end n all a b = first_end (good_at bytes good) k (entry_count bytes) before (omega arith) (omega arith)

-- ---- the run

-- the entries before entry k
abbrev pub first_entries : List ℕ → ℕ → List Edge
first_entries bytes k = each k (λ j. edge_in bytes (entry_at j) ∷ [])

pub ran_same : {s : Replay} {keep : List ℕ} {es fs : List Edge} {l m : List ℕ} {x y : ℕ} → es ≡ fs → Ran s keep es l x y m → Ran s keep fs l x y m
ran_same e r = rw (← e) r

-- one edge more
ran_then : (s : Replay) (keep : List ℕ) (es : List Edge) (l : List ℕ) {e : Edge} {top x y u v : ℕ} {m n : List ℕ} {o : Outcome} → Ran s keep es l x y m → top ≡ top_of s.depth → EdgeFiltered top s.stride (held s keep) e m o n
    → u ≡ in_word (x + o.stored) → v ≡ in_word (y + o.changed) → Ran s keep (es ++ (e ∷ [])) l u v n
unfolding run_edges
ran_then s keep es l {e} {m = m} {o = o} so_far deep done more moved =
    let put : o.stored ≡ stored_by (top_of s.depth) s.stride (held s keep) (e ∷ []) m = done.stored ∙ ap (λ (t : ℕ). stored_at t s.stride (held s keep) e m) deep ∙ sym (one_stored (top_of s.depth) s.stride (held s keep) e m) in
    let new : o.changed ≡ changed_by (top_of s.depth) s.stride (held s keep) (e ∷ []) m = done.changed ∙ ap (λ (t : ℕ). changed_at t s.stride (held s keep) e m) deep ∙ sym (one_changed (top_of s.depth) s.stride (held s keep) e m) in
    record {
      plane = run_then (segment_of (top_of s.depth) s.stride (held s keep)) es (e ∷ []) l so_far.plane (done.plane ∙ ap (λ (t : ℕ). segment_of t s.stride (held s keep) e m) deep);
      stored_is = omega (arith, more, so_far.stored_is, put, stored_then (top_of s.depth) s.stride (held s keep) es (e ∷ []) l 0 so_far.plane refl refl);
      changed_is = omega (arith, moved, so_far.changed_is, new, changed_then (top_of s.depth) s.stride (held s keep) es (e ∷ []) l 0 so_far.plane refl refl);
    }

module _ (s : Replay) (bytes keep l : List ℕ) where
  pub replayed_none : Ran s keep (first_entries bytes 0) l 0 0 l
  unfolding run_edges stored_by changed_by each
  replayed_none = record { plane = refl; stored_is = refl; changed_is = refl }

  pub replayed_more : (k : ℕ) {m n : List ℕ} {e : Edge} {top x y u v : ℕ} {o : Outcome} → Ran s keep (first_entries bytes k) l x y m
      → e ≡ edge_in bytes (entry_at k) → top ≡ top_of s.depth → EdgeFiltered top s.stride (held s keep) e m o n
      → u ≡ in_word (x + o.stored) → v ≡ in_word (y + o.changed) → Ran s keep (first_entries bytes (k + 1)) l u v n
  replayed_more k so_far is deep done more moved =
      ran_same (each_more (λ j. edge_in bytes (entry_at j) ∷ []) k refl (ap (λ (f : Edge). first_entries bytes k ++ (f ∷ [])) is)) (ran_then s keep (first_entries bytes k) l so_far deep done more moved)

  pub replayed_end : (k n : ℕ) {m : List ℕ} {x y : ℕ} → Ran s keep (first_entries bytes k) l x y m → n ≡ entry_count bytes → k ≤ n → n ≤ k → Ran s keep (edges_in bytes) l x y m
  unfolding edges_in
  replayed_end k n r c a b = ran_same (ap (λ (j : ℕ). first_entries bytes j) (le_antisymm (omega arith) (omega arith))) r

-- a plane of the same length serves as well
pub runnable_same : {s : Replay} {bytes : List ℕ} {n k top : ℕ} → k ≡ n → Runnable s bytes n top → Runnable s bytes k top
runnable_same e r = rw e r
