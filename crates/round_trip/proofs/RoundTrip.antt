-- Ticket 2: "A record written by Ticket 1 with its own input plane gives exactly the plane that run gave", of the rules and of both entries; and
-- so it gives the counts that the run gave.
-- Assumes nothing.
use mathlib.Core.Path.{◌≡◌, sym, ap, ◌∙◌}
use mathlib.Core.Bool.{true}
use mathlib.Core.List.{List}
use Prim.Native.Nat.{ℕ, ◌*◌, ◌≤◌, ◌<◌}
use native.Mathlib.Omega.{arith}
use borrow.Author.Tests.{le-leb}
use lib.ListN.{length, take}
use Rattle.laws.specs.Choose.{all, all_ok, all_none, all_parts}
use Rattle.laws.specs.Lists.{Each, each_map, each_both}
use Rattle.rules.specs.declared.edge.Edge.{Edge}
use Rattle.rules.specs.declared.settings.Plane.{Plane}
use Rattle.rules.specs.declared.refusals.Refusal.TheVariants.{Size, Sample}
use Rattle.std.specs.declared.result.Result.TheVariants.{Ok}
use Rattle.std.specs.declared.option.Option.TheVariants.{None}
use Rattle.std.specs.declared.result.Result.{Result}
use Rattle.rules.specs.declared.counts.Counts.{Counts}
use Rattle.rules.specs.declared.refusals.Refusal.{Refusal}
use Rattle.rules.specs.Refusals.{answered, changed_in, stored_in}
use Rattle.rules.specs.declared.counts.Visited.{Visited}
use Rattle.rules.specs.Refusals.{counted, length_told}
use Rattle.rules.specs.Numbers.{top_of}
use Rattle.rules.specs.Refusals.{settle}
use Rattle.rules.specs.Segment.{ranges_ok, has_room, run_edges}
use Rattle.rules.specs.Counts.{stored_by, changed_by}
use Rattle.rules.specs.Plane.{Grid, kept_by, edge_at, edges_of, run_plane, run_stored, run_changed, plane_sizes_ok, over_plane, plane_check}
use Rattle.rules.specs.Record.{record_of, entry_count}
use Rattle.rules.specs.Replay.{replay_sizes_ok, over_replay, replay_check, replay_of, replay_after, replay_stored, replay_changed}
use Rattle.checks.proofs.Checks.{else_parts, unless_true, found_nothing}
use Rattle.records.proofs.RoundTrip.{record_length_holds, read_record}
use Rattle.segment.specs.Fit.{InPlane}
use Rattle.plane.specs.Checked.{Checked}
use Rattle.plane.proofs.Accepting.{checked, lengths}
use Rattle.plane.proofs.Everywhere.{every_edge}
use Rattle.plane.proofs.Marked.{marks_good}
use Rattle.orders.proofs.Once.{Marked, only_marked}
use Rattle.promises.proofs.Counts.{largest, plane_edges}
use Rattle.recorded.specs.Stated.{Stated}
use Rattle.record_promises.proofs.Theorems.{edges_in_bytes, plane_passed, plane_ran, counts_ran, record_is}
use Rattle.replay.specs.Fit.{Replayed}
use Rattle.replay.proofs.Theorems.{Written, record_accepted, counts_exact}
use Rattle.round_trip.specs.Again.{again_of}

-- ---- an accepted plane's edges, as a record

module _ (s : Plane) (steps : List ℕ) (g : Grid) (l : List ℕ) (ok : plane_check s steps g l ≡ Ok tt) where
  abbrev edges : List Edge
  edges = edges_of s steps g

  abbrev Inside : Edge → Type 0
  Inside e = InPlane s.stride (4 * s.cols) (4 * s.rows) e (length l)

  checks : Checked s steps g (length l)
  checks = checked s steps g l ok

  ranges_one : (e : Edge) → Marked s steps g e → Inside e → ranges_ok e ≡ true
  unfolding edge_at ranges_ok all
  ranges_one e m h =
      let two = m.two in
      let d : e.dir ≡ m.dir = ap (λ (f : Edge). f.dir) m.is in
      let pair : e.pair ≤ 7 = omega arith in
      let dir : e.dir ≤ 1 = omega arith in
      rw (le-leb e.q 2048 h.q_most, le-leb e.side 839 h.side_most, le-leb e.pair 7 pair, le-leb e.dir 1 dir)

  marked : Each (Marked s steps g) edges
  marked = only_marked s steps g checks.sizes_ok

  inside : Each Inside edges
  inside = every_edge s steps g l ok

  pub edges_written : Written (again_of s) edges
  edges_written = record {
    fits = edges_in_bytes s steps g l ok;
    ranges = each_both (Marked s steps g) Inside (λ e. ranges_ok e ≡ true) ranges_one edges marked inside;
    room = each_map Inside (λ e. has_room (4 * s.cols) (4 * s.rows) e ≡ true) (λ e h. h.room) edges inside;
  }

  again_sizes : replay_sizes_ok (again_of s) ≡ true
  unfolding plane_check plane_sizes_ok replay_sizes_ok
  again_sizes =
      let sizes = unless_true (plane_sizes_ok s) Size (else_parts _ _ (else_parts _ _ ok).1).0 in
      let p = all_parts _ _ sizes in
      let q = all_parts _ _ p.1 in
      let r = all_parts _ _ q.1 in
      sym (all_ok _ _ _ (sym p.0) (all_ok _ _ _ (sym q.0) (all_ok _ _ _ (sym r.0) all_none)))

  again_clean : over_replay (again_of s) l ≡ None
  unfolding plane_check over_plane
  again_clean =
      found_nothing _ Sample (else_parts _ _ (else_parts _ _ (else_parts _ _ (else_parts _ _ (else_parts _ _ (else_parts _ _ (else_parts _ _ (else_parts _ _ ok).1).1).1).1).1).1).1).1

  -- the record is accepted with the plane and the keep marks as they were lent
  pub again_accepted : replay_check (again_of s) (record_of edges) g.keep l ≡ Ok tt
  again_accepted =
      let long = lengths s g (length l) checks.lengths in
      record_accepted (again_of s) edges edges_written g.keep l checks.depth again_sizes long.samples long.lists.keep (marks_good checks) again_clean

  -- and gives the plane that the run gave
  pub again_plane : replay_after (again_of s) (record_of edges) g.keep l ≡ run_plane s steps g l
  unfolding replay_after replay_of run_plane settle
  again_plane =
      rw again_accepted (ap (λ (es : List Edge). run_edges (top_of s.depth) s.stride (kept_by s g) es l) (read_record edges edges_written.fits))

  -- and the counts
  pub again_counts : (replay_stored (again_of s) (record_of edges) g.keep l ≡ run_stored s steps g l) × (replay_changed (again_of s) (record_of edges) g.keep l ≡ run_changed s steps g l)
  unfolding replay_stored replay_changed run_stored run_changed settle
  again_counts =
      let read = read_record edges edges_written.fits in (
        rw again_accepted (ap (λ (es : List Edge). stored_by (top_of s.depth) s.stride (kept_by s g) es l) read),
        rw again_accepted (ap (λ (es : List Edge). changed_by (top_of s.depth) s.stride (kept_by s g) es l) read),
      )

  -- its entries are few
  again_few : entry_count (record_of edges) < 288230376151711744
  unfolding entry_count
  again_few = omega (arith, record_length_holds edges, plane_edges s steps g l ok, largest s checks.sizes_ok)

-- ---- the two entries

-- whatever ticket 1's entry may answer and leave, n bytes, the plane m and the buffer c, ticket 2's accepts those bytes with the plane and the keep marks as they
-- were lent, leaves m and tells the same counts; ticket 7: "records of Ticket 2 are run with the same marks"
module _ (s : Plane) (steps : List ℕ) (g : Grid) (l b : List ℕ) {a : Result Visited Refusal} {n : ℕ} {m c : List ℕ} (written : Stated s steps g l b a m c) (told : length_told a ≡ Ok n)
    {x : Result Counts Refusal} {k : List ℕ} (done : Replayed (again_of s) (take n c) g.keep l x k) where
  ok : plane_check s steps g l ≡ Ok tt
  ok = plane_passed s steps g l b written told

  is : take n c ≡ record_of (edges_of s steps g)
  is = record_is s steps g l b written told

  pub round_trip : (answered x ≡ Ok tt) × (k ≡ m)
  round_trip = (
    done.answer ∙ ap (λ (r : List ℕ). replay_check (again_of s) r g.keep l) is ∙ again_accepted s steps g l ok,
    done.plane ∙ ap (λ (r : List ℕ). replay_after (again_of s) r g.keep l) is ∙ again_plane s steps g l ok ∙ sym (plane_ran s steps g l b written told),
  )

  pub counts_trip : (stored_in x ≡ stored_in (counted a)) × (changed_in x ≡ changed_in (counted a))
  counts_trip =
      let exact = counts_exact (again_of s) (take n c) g.keep l done (rw is (again_few s steps g l ok)) in
      let run = counts_ran s steps g l b written told in (
        exact.0 ∙ ap (λ (r : List ℕ). replay_stored (again_of s) r g.keep l) is ∙ (again_counts s steps g l ok).0 ∙ sym run.0,
        exact.1 ∙ ap (λ (r : List ℕ). replay_changed (again_of s) r g.keep l) is ∙ (again_counts s steps g l ok).1 ∙ sym run.1,
      )
