-- What the entry's statement says further: one result, a refused plane as lent, any list of edges run as written and counted, and a good record's bytes read and written again.
-- Assumes nothing.
use Rattle.std.proofs.Common.{◌≡◌, ℕ, zero, suc, ◌+◌, ◌-◌, ◌*◌, ◌%◌, ◌<◌, ◌≤◌, Bool, true, List, [], ◌∷◌, length, get_or, take, sym, refl, ap, ◌∙◌, arith, eq-eqb, eqb-true, le-leb, leb-true}
use Rattle.laws.specs.Choose.{both, all, all_parts}
use Rattle.laws.specs.Lists.{Each, each_left, each_right, each_loop}
use Rattle.laws.specs.Loops.{each, singles_length}
use Rattle.low_first.specs.Bytes.{number_in}
use Rattle.rules.specs.declared.edge.Edge.{Edge}
use Rattle.rules.specs.declared.settings.Replay.{Replay}
use Rattle.rules.specs.declared.refusals.Refusal.{Refusal}
use Rattle.rules.specs.Refusals.{Answer}
use Rattle.std.specs.declared.result.Result.TheVariants.{Ok, Err}
use Rattle.std.specs.declared.result.Result.{Result}
use Rattle.rules.specs.declared.counts.Counts.{Counts}
use Rattle.rules.specs.Refusals.{answered, changed_in, stored_in}
use Rattle.std.specs.declared.option.Option.TheVariants.{None}
use Rattle.rules.specs.Numbers.{depth_ok, top_of}
use Rattle.rules.specs.Refusals.{settle, first, sooner, found_unless, found, unless, or_else}
use Rattle.rules.specs.Segment.{ranges_ok, has_room, segment_of, run_edges}
use Rattle.rules.specs.Counts.{stored_by, changed_by}
use Rattle.rules.specs.Record.{header, record_of, edge_in, entry_at, entry_count, edges_in}
use Rattle.rules.specs.Plane.{bad_keep}
use Rattle.rules.specs.Replay.{replay_sizes_ok, replay_long, header_ok, cut_entry, first_entry, over_replay, record_check, replay_check, replay_of, replay_after, replay_stored, replay_changed}
use Rattle.checks.proofs.First.{unless_nothing}
use Rattle.records.specs.Fit.{InBytes}
use Rattle.records.proofs.RoundTrip.{record_length_holds, read_record, write_record}
use Rattle.segment.specs.Fit.{InPlane}
use Rattle.segment.proofs.Counts.{run_stored_holds, run_changed_holds}
use Rattle.kept.proofs.Same.{run_holds}
use Rattle.replay.specs.Fit.{in_word, held, Replayed}
use Rattle.replay.proofs.Entries.{entry_runs}
use Rattle.replay.proofs.Checking.{own, passed}

module _ (s : Replay) (bytes keep l : List ℕ) {a : Result Counts Refusal} {m : List ℕ} (done : Replayed s bytes keep l a m) where
  -- any two results that the statement allows are equal
  pub one_result : {b : Result Counts Refusal} {n : List ℕ} → Replayed s bytes keep l b n → (answered a ≡ answered b) × (m ≡ n) × (stored_in a ≡ stored_in b) × (changed_in a ≡ changed_in b)
  one_result other = (done.answer ∙ sym other.answer, done.plane ∙ sym other.plane, done.stored ∙ sym other.stored, done.changed ∙ sym other.changed)

  -- "Refusals, all before writing"
  pub refused_kept : {r : Refusal} → answered a ≡ Err r → m ≡ l
  unfolding replay_after settle
  refused_kept e = done.plane ∙ ap (λ (x : Answer). settle x l (replay_of s bytes keep l)) (sym done.answer ∙ e)

  -- ticket 4: "A refusal reports zero for both."
  pub refused_none : {r : Refusal} → answered a ≡ Err r → (stored_in a ≡ 0) × (changed_in a ≡ 0)
  unfolding replay_stored replay_changed settle
  refused_none e =
      let no = sym done.answer ∙ e in (
        done.stored ∙ ap (λ (x : Answer). in_word (settle x 0 (stored_by (top_of s.depth) s.stride (held s keep) (edges_in bytes) l))) no,
        done.changed ∙ ap (λ (x : Answer). in_word (settle x 0 (changed_by (top_of s.depth) s.stride (held s keep) (edges_in bytes) l))) no,
      )

  -- "Any well-formed list is run": the entries' edges one after the other, on the cells or off them, once or twice
  pub runs_entries : answered a ≡ Ok tt → m ≡ run_edges (top_of s.depth) s.stride (held s keep) (edges_in bytes) l
  unfolding replay_after replay_of settle
  runs_entries e = done.plane ∙ ap (λ (x : Answer). settle x l (replay_of s bytes keep l)) (sym done.answer ∙ e)

  -- and so a written list of edges
  pub runs_list : (es : List Edge) → Each InBytes es → bytes ≡ record_of es → answered a ≡ Ok tt → m ≡ run_edges (top_of s.depth) s.stride (held s keep) es l
  runs_list es fit is e =
      runs_entries e ∙ ap (λ (xs : List Edge). run_edges (top_of s.depth) s.stride (held s keep) xs l) (ap edges_in is ∙ read_record es fit)

  -- "also one with an edge twice: the segments are applied one after the other"
  pub runs_twice : (e : Edge) → InBytes e → bytes ≡ record_of (e ∷ e ∷ []) → answered a ≡ Ok tt
      → m ≡ segment_of (top_of s.depth) s.stride (held s keep) e (segment_of (top_of s.depth) s.stride (held s keep) e l)
  unfolding run_edges
  runs_twice e fit is ok = runs_list (e ∷ e ∷ []) (fit, (fit, tt)) is ok

-- ---- ticket 7: "records of Ticket 2 are run with the same marks"

module _ (s : Replay) (bytes keep l : List ℕ) {a : Result Counts Refusal} {m : List ℕ} (done : Replayed s bytes keep l a m) where
  -- a sample in a kept cell is as lent, accepted or refused
  pub replay_held : (i : ℕ) → held s keep i ≡ true → get_or m i 0 ≡ get_or l i 0
  unfolding replay_after replay_of settle
  replay_held i h = ap (λ (x : List ℕ). get_or x i 0) done.plane ∙ go (replay_check s bytes keep l)
    where
      go : (x : Answer) → get_or (settle x l (run_edges (top_of s.depth) s.stride (held s keep) (edges_in bytes) l)) i 0 ≡ get_or l i 0
      go (Ok tt) = run_holds (top_of s.depth) s.stride (held s keep) (edges_in bytes) l i h
      go (Err r) = refl

-- ---- "reading then writing a good record returns its bytes"

-- mark and version, byte by byte
header_bytes : (bytes : List ℕ) → header_ok bytes ≡ true → ((k : ℕ) → get_or bytes k 0 < 256) → take 5 bytes ≡ header
unfolding header_ok number_in
header_bytes bytes h small =
    let p = all_parts _ _ h in
    let q = all_parts _ _ p.1 in
    let r = all_parts _ _ q.1 in
    let t = all_parts _ _ r.1 in
    let u = all_parts _ _ t.1 in
    go bytes (leb-true 5 (length bytes) p.0) (eqb-true _ _ q.0) (eqb-true _ _ r.0) (eqb-true _ _ t.0) (eqb-true _ _ u.0) (small 3)
  where
    go : (b : List ℕ) → 5 ≤ length b → get_or b 0 0 ≡ 69 → get_or b 1 0 ≡ 68 → get_or b 2 0 ≡ 71 → get_or b 3 0 + 256 * (get_or b 4 0 + 256 * 0) ≡ 1 → get_or b 3 0 < 256 → take 5 b ≡ header
    go [] h e d g v k = absurd (omega arith)
    go (a ∷ []) h e d g v k = absurd (omega arith)
    go (a ∷ b ∷ []) h e d g v k = absurd (omega arith)
    go (a ∷ b ∷ c ∷ []) h e d g v k = absurd (omega arith)
    go (a ∷ b ∷ c ∷ x ∷ []) h e d g v k = absurd (omega arith)
    go (a ∷ b ∷ c ∷ x ∷ y ∷ rest) h e d g v k =
        let low : x ≡ 1 = omega arith in
        let high : y ≡ 0 = omega arith in
        rw (e, d, g, low, high)

whole_entries : (bytes : List ℕ) → 5 ≤ length bytes → cut_entry bytes ≡ None → length bytes ≡ 5 + 10 * entry_count bytes
unfolding cut_entry entry_count
whole_entries bytes h w = let e : (length bytes - 5) % 10 ≡ 0 = eqb-true _ _ (unless_nothing _ _ w) in omega arith

-- a record that its own checks accept, whose bytes are bytes
pub write_checked : (bytes : List ℕ) → ((k : ℕ) → get_or bytes k 0 < 256) → record_check bytes ≡ Ok tt → record_of (edges_in bytes) ≡ bytes
write_checked bytes small ok =
    let p = own bytes ok in
    write_record bytes (record { header_is = header_bytes bytes p.header small; entries_whole = whole_entries bytes p.ranged.header_there p.whole; small = small })

-- and so one that the entry accepts
pub write_accepted : (s : Replay) (bytes keep l : List ℕ) → ((k : ℕ) → get_or bytes k 0 < 256) → replay_check s bytes keep l ≡ Ok tt → record_of (edges_in bytes) ≡ bytes
write_accepted s bytes keep l small ok = write_checked bytes small (passed s bytes keep l ok).record_ok

-- ---- which records are accepted

-- every edge of an accepted record is in range and has room
pub accepted_inside : (s : Replay) (bytes keep l : List ℕ) → replay_check s bytes keep l ≡ Ok tt → Each (λ e. InPlane s.stride (4 * s.cols) (4 * s.rows) e (length l)) (edges_in bytes)
unfolding edges_in
accepted_inside s bytes keep l ok =
    each_loop (λ e. InPlane s.stride (4 * s.cols) (4 * s.rows) e (length l)) (entry_count bytes) (λ k. edge_in bytes (entry_at k) ∷ [])
    (λ k h. (entry_runs bytes k h refl (passed s bytes keep l ok).runs, tt))

-- a test that every edge passes finds no entry
none_first : (good : Edge → Bool) (f : ℕ → Edge) (n : ℕ) → Each (λ e. good e ≡ true) (each n (λ k. f k ∷ [])) → first n (λ k. found_unless (good (f k)) k) ≡ None
unfolding first sooner found_unless each
none_first good f zero h = refl
none_first good f (suc n) h =
    let before = none_first good f n (each_left (λ e. good e ≡ true) (each n (λ k. f k ∷ [])) (f n ∷ []) h) in
    let here = (each_right (λ e. good e ≡ true) (each n (λ k. f k ∷ [])) (f n ∷ []) h).0 in
    rw (before, here)

edges_in_length : (bytes : List ℕ) → length (edges_in bytes) ≡ entry_count bytes
unfolding edges_in
edges_in_length bytes = singles_length (λ k. edge_in bytes (entry_at k)) (entry_count bytes)

-- what is asked of a written list of edges
pub record Written (s : Replay) (es : List Edge) : Type 0 where
  pub fits : Each InBytes es
  pub ranges : Each (λ e. ranges_ok e ≡ true) es
  pub room : Each (λ e. has_room (4 * s.cols) (4 * s.rows) e ≡ true) es

module _ (s : Replay) (es : List Edge) (w : Written s es) where
  entries_pass : (good : Edge → Bool) → Each (λ e. good e ≡ true) es → first_entry good (record_of es) ≡ None
  unfolding first_entry edges_in
  entries_pass good h =
      none_first good (λ k. edge_in (record_of es) (entry_at k)) (entry_count (record_of es)) (rw (read_record es w.fits) h)

  header_good : header_ok (record_of es) ≡ true
  unfolding all header_ok record_of number_in
  header_good = rw (le-leb 5 (length (record_of es)) (omega (arith, record_length_holds es)))

  no_cut : cut_entry (record_of es) ≡ None
  unfolding cut_entry found_unless
  no_cut =
      let whole : (length (record_of es) - 5) % 10 ≡ 0 = omega (arith, record_length_holds es) in
      rw (eq-eqb _ _ whole)

  written_accepted : record_check (record_of es) ≡ Ok tt
  unfolding record_check or_else unless found
  written_accepted = rw (header_good, no_cut, entries_pass ranges_ok w.ranges)

  -- a good plane takes every written list of edges in range and with room
  pub record_accepted : (keep l : List ℕ) → depth_ok s.depth ≡ true → replay_sizes_ok s ≡ true → 4 * s.rows * s.stride ≤ length l → s.rows * s.cols ≤ length keep
      → bad_keep (s.rows * s.cols) keep ≡ None → over_replay s l ≡ None → replay_check s (record_of es) keep l ≡ Ok tt
  unfolding replay_check replay_long both or_else unless found
  record_accepted keep l d z p q k o = rw (d, z, le-leb _ _ p, le-leb _ _ q, written_accepted, k, entries_pass (has_room (4 * s.cols) (4 * s.rows)) w.room, o)

-- ---- how far the counts go

module _ (s : Replay) (bytes keep l : List ℕ) where
  abbrev stored_all : ℕ
  stored_all = stored_by (top_of s.depth) s.stride (held s keep) (edges_in bytes) l

  abbrev changed_all : ℕ
  changed_all = changed_by (top_of s.depth) s.stride (held s keep) (edges_in bytes) l

  -- "changed never exceeds stored"
  pub replay_changed_holds : changed_all ≤ stored_all
  replay_changed_holds = run_changed_holds (top_of s.depth) s.stride (held s keep) (edges_in bytes) l

  -- "stores at most 64 samples for each"
  pub replay_stored_holds : replay_check s bytes keep l ≡ Ok tt → stored_all ≤ entry_count bytes * 64
  replay_stored_holds ok =
      let most = run_stored_holds (top_of s.depth) s.stride (held s keep) (4 * s.cols) (4 * s.rows) (length l) (edges_in bytes) (accepted_inside s bytes keep l ok) l in
      let all : length (edges_in bytes) ≡ entry_count bytes = edges_in_length bytes in
      omega (arith, most)

  module _ {a : Result Counts Refusal} {m : List ℕ} (done : Replayed s bytes keep l a m) (few : entry_count bytes < 288230376151711744) where
    -- a record of fewer than 2^58 entries is counted as it is
    pub counts_exact : (stored_in a ≡ replay_stored s bytes keep l) × (changed_in a ≡ replay_changed s bytes keep l)
    unfolding replay_stored replay_changed settle
    counts_exact = go (replay_check s bytes keep l) refl done.stored done.changed
      where
        go : (x : Answer) → replay_check s bytes keep l ≡ x → {u v : ℕ} → u ≡ in_word (settle x 0 stored_all) → v ≡ in_word (settle x 0 changed_all) → (u ≡ settle x 0 stored_all) × (v ≡ settle x 0 changed_all)
        go (Ok tt) ok p q = (omega (arith, p, replay_stored_holds ok), omega (arith, q, replay_stored_holds ok, replay_changed_holds))
        go (Err r) ok p q = (p, q)

    pub counts_most : (stored_in a ≤ entry_count bytes * 64) × (changed_in a ≤ stored_in a)
    unfolding replay_stored replay_changed settle
    counts_most = go (replay_check s bytes keep l) refl counts_exact.0 counts_exact.1
      where
        go : (x : Answer) → replay_check s bytes keep l ≡ x → {u v : ℕ} → u ≡ settle x 0 stored_all → v ≡ settle x 0 changed_all → (u ≤ entry_count bytes * 64) × (v ≤ u)
        go (Ok tt) ok p q = (omega (arith, p, replay_stored_holds ok), omega (arith, p, q, replay_changed_holds))
        go (Err r) ok p q = (omega (arith, p), omega (arith, p, q))
