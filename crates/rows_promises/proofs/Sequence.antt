-- A sequence of calls that reaches full height: its picture is one that the whole run accepts, and the plane, the summed counts and the rows called final are those of the whole run,
-- whatever the rows held that were not filled yet. Assumes nothing.
use mathlib.Core.Path.{◌≡◌, refl, sym, ap, ap₂, ◌∙◌}
use mathlib.Core.Bool.{Bool, false, not}
use mathlib.Core.List.{List}
use Prim.Native.Nat.{ℕ, zero, suc, ◌+◌, ◌*◌, ◌-◌, ◌/◌, ◌≤◌, ◌<◌}
use native.Mathlib.Nat.{le_refl}
use native.Mathlib.Decide.{ℕ_discrete, dec_lt}
use native.Mathlib.Omega.{arith}
use lib.Dec.{T, not_T}
use lib.ListN.{length}
use Rattle.laws.specs.Loops.{each}
use Rattle.laws.specs.Lists.{Each, each_map, each_append}
use Rattle.laws.specs.Sums.{sum}
use Rattle.laws.specs.Footprints.{Agree}
use Rattle.laws.specs.Boxes.{in_box, in_of, of_in, row_of, inside_trans}
use Rattle.laws.specs.Trace.{run_append, total, total_append}
use Rattle.laws.specs.Schedules.{rises}
use Rattle.rules.specs.declared.edge.Edge.{Edge}
use Rattle.rules.specs.declared.settings.Plane.{Plane}
use Rattle.rules.specs.declared.rows.RowState.{RowState}
use Rattle.rules.specs.declared.rows.RowsAnswer.{RowsAnswer}
use Rattle.std.specs.declared.result.Result.TheVariants.{Ok}
use Rattle.rules.specs.Numbers.{top_of}
use Rattle.rules.specs.Refusals.{or_else, found}
use Rattle.rules.specs.Segment.{run_edges, segment_of}
use Rattle.rules.specs.Counts.{stored_at, changed_at, stored_by, changed_by}
use Rattle.rules.specs.Plane.{Grid, kept_by, run_plane, run_stored, run_changed, plane_check}
use Rattle.rules.specs.Rows.{band_of, final_of, settings_check, rows_check}
use Rattle.segment.specs.Boxes.{read_box}
use Rattle.cell_edges.specs.Cells.{Sizes}
use Rattle.plane.specs.Checked.{Checked}
use Rattle.plane.proofs.Accepting.{plane_parts, checked}
use Rattle.plane.proofs.Samples.{run_length}
use Rattle.orders.specs.Walks.{bands_of}
use Rattle.orders.proofs.Bands.{Fills, calls_run, calls_stored, calls_changed, final_stays}
use Rattle.rows.proofs.Final.{final_part}
use Rattle.rows.proofs.Calls.{Counts}
use Rattle.rows_promises.specs.Calls.{SameRows, Calls, AllAccepted, held_at, Sends}
use Rattle.rows_promises.proofs.Agree.{Within, run_agree, stored_agree, changed_agree, run_outside}
use Rattle.rows_promises.proofs.Reach.{rows_box, agree_rows, rows_agree, final_up, final_most, band_reach}
use Rattle.rows_promises.proofs.Low.{LowRows, new_low, low_plane}
use Rattle.rows_promises.proofs.Single.{Done, done_of, final_kept, call_accepts}

-- the rows of cells that are filled before call k
abbrev cells_at : (ℕ → ℕ) → ℕ → ℕ
cells_at a k = held_at a k / 4

module _ {s : Plane} {steps : List ℕ} {g : Grid} {n : ℕ} {a : ℕ → ℕ} {st : ℕ → RowState} {lent left : ℕ → List ℕ} {r : ℕ → RowsAnswer}
    (c : Calls s steps g n a st lent left r) (ok : AllAccepted n r) where
  -- ---- each call

  abbrev band_at : ℕ → List Edge
  band_at k = band_of s steps g (cells_at a k) (cells_at a (suc k))

  -- the edges of the first k calls
  abbrev sofar : ℕ → List Edge
  sofar k = bands_of s steps g (cells_at a) k

  abbrev runs : List Edge → List ℕ → List ℕ
  runs es l = run_edges (top_of s.depth) s.stride (kept_by s g) es l

  done : (k : ℕ) → k < n → Done s steps g (st k) (a k) (lent k) (r k) (left k)
  done k h = done_of (c.stated k h) (ok.each k h)

  -- the state that it is handed holds the count of the call before it
  held_is : (k : ℕ) → k < n → (st k).held ≡ held_at a k
  held_is zero h = ap (λ (t : RowState). t.held) c.begins
  held_is (suc k) h = ap (λ (t : RowState). t.held) (c.handed k h ∙ (done k (omega arith)).state)

  pub counts_at : (k : ℕ) → k < n → Counts s.rows (held_at a k) (a k)
  counts_at k h = rw (held_is k h) at (done k h).passes.counts

  left_is : (k : ℕ) → (h : k < n) → left k ≡ runs (band_at k) (lent k)
  left_is k h = rw (held_is k h) at (done k h).plane

  stored_is : (k : ℕ) → k < n → (r k).stored ≡ stored_by (top_of s.depth) s.stride (kept_by s g) (band_at k) (lent k)
  stored_is k h = rw (held_is k h) at (done k h).stored

  changed_is : (k : ℕ) → k < n → (r k).changed ≡ changed_by (top_of s.depth) s.stride (kept_by s g) (band_at k) (lent k)
  changed_is k h = rw (held_is k h) at (done k h).changed

  -- rows filled, at full height or below it
  rises_at : (k j : ℕ) → k ≤ j → j < n → a k ≤ a j
  rises_at k j l h = rises a j (λ i m. (counts_at (suc i) (omega arith)).up) k j l (le_refl j)

  -- ---- "rows called final are not changed again"

  final_at : (k : ℕ) → k < n → (r k).finalrows ≡ final_of s.rows (a k)
  final_at k h = (done k h).final_rows

  -- a later call leaves them as it found them, and the caller does not alter them
  pub final_again : (k j : ℕ) → k ≤ j → j < n → SameRows s 0 (r k).finalrows (left j) (left k)
  final_again k zero l h = let e : k ≡ 0 = omega arith in rw e (record { at = λ x y hx lo hi. refl })
  final_again k (suc j) l h = elim (ℕ_discrete k (suc j)) [
    | yes e ↦ rw e (record { at = λ x y hx lo hi. refl })
    | no e ↦
        let m : k ≤ j = omega arith in
        let lj : j < n = omega arith in
        let f : final_of s.rows (a k) ≤ final_of s.rows (a j) = final_up s.rows (a k) (a j) (rises_at k j m lj) in
        record {
          at = λ x y hx lo hi.
              (final_kept (c.stated (suc j) h)).at x y hx lo (omega (arith, hi, final_at k (omega arith), f, ap (final_of s.rows) (held_is (suc j) h)))
              ∙ (c.unaltered j h).at x y hx lo (omega (arith, hi, final_at k (omega arith), f, final_most s.rows (a j) (counts_at j lj).filled_most))
              ∙ (final_again k j m lj).at x y hx lo hi;
        }
  ]

  -- ---- the picture

  module _ (p : List ℕ) (sent : Sends s n a lent p) where
    checks_at : (k : ℕ) → k < n → Checked s steps g (length p)
    checks_at k h = rw (sent.long k h) at (done k h).passes.checks

    -- the rows of the first calls, as a test of places
    abbrev filled_box : ℕ → ℕ → Bool
    filled_box k = in_box s.stride (rows_box s 0 (held_at a k))

    abbrev ReachesTo : ℕ → Edge → Type 0
    ReachesTo upto = Within s.stride (4 * s.cols) (4 * s.rows) (length p) (rows_box s 0 upto)

    -- no edge of call k reaches beyond its filled rows
    band_to : (k : ℕ) → k < n → Each (ReachesTo (a k)) (band_at k)
    band_to k h =
        let q = counts_at k h in
        let fours : 4 * (a k / 4) ≡ a k = omega (arith, q.filled_fours) in
        rw fours at (band_reach s steps g (length p) (checks_at k h) (cells_at a k) (a k / 4) (omega (arith, q.up)) (omega (arith, q.filled_most)))

    further : (e : Edge) (m u : ℕ) → m ≤ u → ReachesTo m e → ReachesTo u e
    further e m u h w = (w.0, inside_trans (read_box e) (rows_box s 0 m) (rows_box s 0 u) w.1 (record { ix0 = omega arith; ix1 = omega arith; iy0 = omega arith; iy1 = h }))

    sofar_to : (k : ℕ) → k ≤ n → Each (ReachesTo (held_at a k)) (sofar k)
    unfolding bands_of each
    sofar_to zero h = tt
    sofar_to (suc k) h =
        each_append (ReachesTo (a k)) (sofar k) (band_at k)
        (each_map (ReachesTo (held_at a k)) (ReachesTo (a k)) (λ e w. further e (held_at a k) (a k) (counts_at k h).up w) (sofar k) (sofar_to k (omega arith)))
        (band_to k h)

    -- one call more
    sofar_more : (k : ℕ) → runs (sofar (suc k)) p ≡ runs (band_at k) (runs (sofar k) p)
    unfolding bands_of each run_edges
    sofar_more k = run_append (segment_of (top_of s.depth) s.stride (kept_by s g)) (sofar k) (band_at k) p

    long_at : (k j : ℕ) → k < n → length (lent k) ≡ length (runs (sofar j) p)
    long_at k j h = sent.long k h ∙ sym (run_length (top_of s.depth) s.stride (kept_by s g) (sofar j) p)

    -- ---- after each call the filled rows are those of a run on the picture, whatever the other rows held

    left_by : (k : ℕ) (h : k < n) → Agree (filled_box (suc k)) (lent k) (runs (sofar k) p) → Agree (filled_box (suc k)) (left k) (runs (sofar (suc k)) p)
    left_by k h same =
        rw (left_is k h, sofar_more k)
        (run_agree (top_of s.depth) s.stride (kept_by s g) (4 * s.cols) (4 * s.rows) (length p) (rows_box s 0 (a k)) (band_at k) (band_to k h) (lent k) (runs (sofar k) p) (long_at k k h) same)

    lent_same : (k : ℕ) → k < n → Agree (filled_box (suc k)) (lent k) (runs (sofar k) p)
    unfolding bands_of each run_edges
    lent_same zero h i t = agree_rows s 0 (a 0) (lent 0) p (sent.new_rows 0 h) i t
    lent_same (suc k) h i t =
        let lk : k < n = omega arith in
        let j = in_of s.stride (rows_box s 0 (a (suc k))) i t in
        elim (dec_lt (i / s.stride) (a k)) [
          | yes b ↦
              let u : T (filled_box (suc k) i) = of_in s.stride (rows_box s 0 (a k)) i (record { left = omega arith; right = j.right; top = omega arith; bottom = b }) in
              agree_rows s 0 (a k) (lent (suc k)) (left k) (c.unaltered k h) i u ∙ left_by k lk (lent_same k lk) i u
          | no b ↦
              let u : T (in_box s.stride (rows_box s (a k) (a (suc k))) i) = of_in s.stride (rows_box s (a k) (a (suc k))) i (record { left = omega arith; right = j.right; top = omega arith; bottom = j.bottom }) in
              let v : T (not (filled_box (suc k) i)) = not_T (filled_box (suc k) i) (λ w. b (in_of s.stride (rows_box s 0 (a k)) i w).bottom) in
              agree_rows s (a k) (a (suc k)) (lent (suc k)) p (sent.new_rows (suc k) h) i u
              ∙ sym (run_outside (top_of s.depth) s.stride (kept_by s g) (4 * s.cols) (4 * s.rows) (length p) (rows_box s 0 (a k)) (sofar (suc k)) (sofar_to (suc k) (omega arith)) p i v)
        ]

    left_same : (k : ℕ) → k < n → Agree (filled_box (suc k)) (left k) (runs (sofar (suc k)) p)
    left_same k h = left_by k h (lent_same k h)

    -- ---- the counts so far

    stored_sum : (k : ℕ) → k ≤ n → sum k (λ j. (r j).stored) ≡ stored_by (top_of s.depth) s.stride (kept_by s g) (sofar k) p
    unfolding bands_of each sum run_edges stored_by
    stored_sum zero h = refl
    stored_sum (suc k) h =
        ap₂ (λ (x y : ℕ). x + y) (stored_sum k (omega arith))
        (stored_is k h ∙ stored_agree (top_of s.depth) s.stride (kept_by s g) (4 * s.cols) (4 * s.rows) (length p) (rows_box s 0 (a k)) (band_at k) (band_to k h) (lent k) (runs (sofar k) p) (long_at k k h) (lent_same k h))
        ∙ sym (total_append (segment_of (top_of s.depth) s.stride (kept_by s g)) (stored_at (top_of s.depth) s.stride (kept_by s g)) (sofar k) (band_at k) p)

    changed_sum : (k : ℕ) → k ≤ n → sum k (λ j. (r j).changed) ≡ changed_by (top_of s.depth) s.stride (kept_by s g) (sofar k) p
    unfolding bands_of each sum run_edges changed_by
    changed_sum zero h = refl
    changed_sum (suc k) h =
        ap₂ (λ (x y : ℕ). x + y) (changed_sum k (omega arith))
        (changed_is k h ∙ changed_agree (top_of s.depth) s.stride (kept_by s g) (4 * s.cols) (4 * s.rows) (length p) (rows_box s 0 (a k)) (band_at k) (band_to k h) (lent k) (runs (sofar k) p) (long_at k k h) (lent_same k h))
        ∙ sym (total_append (segment_of (top_of s.depth) s.stride (kept_by s g)) (changed_at (top_of s.depth) s.stride (kept_by s g)) (sofar k) (band_at k) p)

    -- ---- the samples of the rows filled so far were each tested once

    low_sofar : (k : ℕ) → k ≤ n → LowRows s 0 (held_at a k) p
    low_sofar zero h = record { at = λ x y hx lo hi. absurd (omega arith) }
    low_sofar (suc k) h = record {
      at = λ x y hx lo hi. elim (dec_lt y (held_at a k)) [
        | yes b ↦ (low_sofar k (omega arith)).at x y hx lo b
        | no b ↦
            let q : LowRows s (held_at a k) (a k) (lent k) = rw (held_is k h) at (new_low s (lent k) (st k).held (a k) (done k h).passes.low) in
            rw ((sent.new_rows k h).at x y hx (omega arith) hi) at (q.at x y hx (omega arith) hi)
      ];
    }

-- ---- at full height

module _ {s : Plane} {steps : List ℕ} {g : Grid} {m : ℕ} {a : ℕ → ℕ} {st : ℕ → RowState} {lent left : ℕ → List ℕ} {r : ℕ → RowsAnswer}
    (c : Calls s steps g (suc m) a st lent left r) (ok : AllAccepted (suc m) r) (full : a m ≡ 4 * s.rows) where
  fills : Fills s.rows (cells_at a) (suc m)
  fills = record { none = omega arith; all = omega (arith, full); up = λ k l. omega (arith, (counts_at c ok k l).up) }

  module _ (p : List ℕ) (sent : Sends s (suc m) a lent p) where
    -- the whole run accepts the picture
    pub picture_accepted : plane_check s steps g p ≡ Ok tt
    unfolding or_else found
    picture_accepted =
        let settings : settings_check s steps g (length p) ≡ (Ok tt) = rw (sent.long m (le_refl (suc m))) at (done c ok m (le_refl (suc m))).passes.settings in
        let low : LowRows s 0 (4 * s.rows) p = rw full at (low_sofar c ok p sent (suc m) (le_refl (suc m))) in
        plane_parts s steps g p ∙ rw (settings, low_plane s p low)

    sizes_at : Sizes s
    sizes_at = (checks_at c ok p sent m (le_refl (suc m))).sizes_ok

    -- "Any cutting gives the plane .. of the whole run"
    pub calls_plane : SameRows s 0 (4 * s.rows) (left m) (run_plane s steps g p)
    calls_plane =
        rw (calls_run s steps g sizes_at (cells_at a) (suc m) fills p picture_accepted)
        (rows_agree s 0 (4 * s.rows) (left m) _ sizes_at.wide (rw full at (left_same c ok p sent m (le_refl (suc m)))))

    -- "and summed counts"
    pub calls_stored_sum : sum (suc m) (λ k. (r k).stored) ≡ run_stored s steps g p
    calls_stored_sum = stored_sum c ok p sent (suc m) (le_refl (suc m)) ∙ sym (calls_stored s steps g sizes_at (cells_at a) (suc m) fills p picture_accepted)

    pub calls_changed_sum : sum (suc m) (λ k. (r k).changed) ≡ run_changed s steps g p
    calls_changed_sum = changed_sum c ok p sent (suc m) (le_refl (suc m)) ∙ sym (calls_changed s steps g sizes_at (cells_at a) (suc m) fills p picture_accepted)

    -- rows called final hold the samples of the whole run from then on
    pub final_whole : (k : ℕ) → k < suc m → SameRows s 0 (r k).finalrows (left k) (run_plane s steps g p)
    final_whole k h =
        let q = counts_at c ok k h in
        let f = (done c ok k h).final_rows in
        record {
          at = λ x y hx lo hi.
              let wide : x < s.stride = omega (arith, hx, sizes_at.wide) in
              let row = row_of s.stride x y wide in
              let below : y < a k = omega (arith, hi, f, final_most s.rows (a k) q.filled_most) in
              (rows_agree s 0 (a k) (left k) (run_edges (top_of s.depth) s.stride (kept_by s g) (bands_of s steps g (cells_at a) (suc k)) p) sizes_at.wide (left_same c ok p sent k h)).at x y hx lo below
              ∙ sym (final_stays s steps g sizes_at (cells_at a) (suc m) fills p picture_accepted (suc k) (y * s.stride + x) h
              (λ l. omega (arith, row, hi, f, final_part s.rows (a k) (omega (arith, l, q.filled_fours)), q.filled_fours)));
        }

-- ---- where nothing changes between the calls: the whole plane is lent from the start, and is left as the whole run leaves it

module _ {s : Plane} {steps : List ℕ} {g : Grid} {m : ℕ} {a : ℕ → ℕ} {st : ℕ → RowState} {lent left : ℕ → List ℕ} {r : ℕ → RowsAnswer}
    (c : Calls s steps g (suc m) a st lent left r) (ok : AllAccepted (suc m) r) (full : a m ≡ 4 * s.rows)
    (same : (k : ℕ) → k < m → lent (suc k) ≡ left k) (whole : plane_check s steps g (lent 0) ≡ Ok tt) where
  abbrev start : List ℕ
  start = lent 0

  abbrev before : ℕ → List Edge
  before k = bands_of s steps g (cells_at a) k

  abbrev after : List Edge → List ℕ → List ℕ
  after es l = run_edges (top_of s.depth) s.stride (kept_by s g) es l

  lent_is : (k : ℕ) → k < suc m → lent k ≡ after (before k) start
  unfolding bands_of each run_edges
  lent_is zero h = refl
  lent_is (suc k) h =
      same k (omega arith)
      ∙ left_is c ok k (omega arith)
      ∙ ap (after (band_of s steps g (cells_at a k) (cells_at a (suc k)))) (lent_is k (omega arith))
      ∙ sym (run_append (segment_of (top_of s.depth) s.stride (kept_by s g)) (before k) (band_of s steps g (cells_at a k) (cells_at a (suc k))) start)

  sizes_of : Sizes s
  sizes_of = (checked s steps g start whole).sizes_ok

  pub whole_plane : left m ≡ run_plane s steps g start
  unfolding bands_of each run_edges
  whole_plane =
      left_is c ok m (le_refl (suc m))
      ∙ ap (after (band_of s steps g (cells_at a m) (cells_at a (suc m)))) (lent_is m (le_refl (suc m)))
      ∙ sym (run_append (segment_of (top_of s.depth) s.stride (kept_by s g)) (before m) (band_of s steps g (cells_at a m) (cells_at a (suc m))) start)
      ∙ sym (calls_run s steps g sizes_of (cells_at a) (suc m) (fills c ok full) start whole)

  -- the counts, of a cost that is told call by call
  sums : (cost : Edge → List ℕ → ℕ) (f : ℕ → ℕ)
      → ((k : ℕ) → k < suc m → f k ≡ total (segment_of (top_of s.depth) s.stride (kept_by s g)) cost (band_of s steps g (cells_at a k) (cells_at a (suc k))) (lent k))
      → (k : ℕ) → k ≤ suc m → sum k f ≡ total (segment_of (top_of s.depth) s.stride (kept_by s g)) cost (before k) start
  unfolding bands_of each sum run_edges
  sums cost f is zero h = refl
  sums cost f is (suc k) h =
      ap₂ (λ (x y : ℕ). x + y) (sums cost f is k (omega arith))
      (is k h ∙ ap (total (segment_of (top_of s.depth) s.stride (kept_by s g)) cost (band_of s steps g (cells_at a k) (cells_at a (suc k)))) (lent_is k h))
      ∙ sym (total_append (segment_of (top_of s.depth) s.stride (kept_by s g)) cost (before k) (band_of s steps g (cells_at a k) (cells_at a (suc k))) start)

  pub whole_stored : sum (suc m) (λ k. (r k).stored) ≡ run_stored s steps g start
  unfolding stored_by
  whole_stored =
      sums (stored_at (top_of s.depth) s.stride (kept_by s g)) (λ k. (r k).stored) (stored_is c ok) (suc m) (le_refl (suc m))
      ∙ sym (calls_stored s steps g sizes_of (cells_at a) (suc m) (fills c ok full) start whole)

  pub whole_changed : sum (suc m) (λ k. (r k).changed) ≡ run_changed s steps g start
  unfolding changed_by
  whole_changed =
      sums (changed_at (top_of s.depth) s.stride (kept_by s g)) (λ k. (r k).changed) (changed_is c ok) (suc m) (le_refl (suc m))
      ∙ sym (calls_changed s steps g sizes_of (cells_at a) (suc m) (fills c ok full) start whole)

-- ---- a picture that the whole run accepts is accepted call by call, where the counts are good

module _ {s : Plane} {steps : List ℕ} {g : Grid} {n : ℕ} {a : ℕ → ℕ} {st : ℕ → RowState} {lent left : ℕ → List ℕ} {r : ℕ → RowsAnswer}
    (c : Calls s steps g n a st lent left r) (p : List ℕ) (sent : Sends s n a lent p) (whole : plane_check s steps g p ≡ Ok tt)
    (good : (k : ℕ) → k < n → Counts s.rows (held_at a k) (a k)) where
  accepted_at : (k : ℕ) → k < n → st k ≡ record { held = held_at a k; spent = false } → (r k).answer ≡ Ok tt
  accepted_at k h e =
      (c.stated k h).answer
      ∙ ap (λ (t : RowState). rows_check s steps g t (a k) (lent k)) e
      ∙ call_accepts s steps g (record { held = held_at a k; spent = false }) (a k) (lent k) p whole (sent.long k h) refl (good k h) (sent.new_rows k h)

  state_at : (k : ℕ) → k < n → st k ≡ record { held = held_at a k; spent = false }
  state_at zero h = c.begins
  state_at (suc k) h =
      let l : k < n = omega arith in
      c.handed k h ∙ (done_of (c.stated k l) (accepted_at k l (state_at k l))).state

  pub all_accepted : AllAccepted n r
  all_accepted = record { each = λ k h. accepted_at k h (state_at k h) }
