-- What `record_plane` promises where it answers so many bytes: they are the header and an entry for each marked edge, once, in document 01's order;
-- the bytes after them stay, and plane and counts are those of the run without a record. And that a refusal leaves both as lent and counts nothing, and that there is one result.
-- Assumes nothing.
use mathlib.Core.Path.{◌≡◌, refl, sym, ap, ◌∙◌}
use mathlib.Core.Bool.{true}
use mathlib.Core.List.{List}
use Prim.Native.Nat.{ℕ, ◌+◌, ◌*◌}
use native.Mathlib.Omega.{arith}
use lib.ListN.{length, get_or, take, drop}
use lib.Seq.{take_at, drop_at}
use Rattle.laws.specs.Lists.{Each, each_both}
use Rattle.laws.specs.Reorder.{count}
use Rattle.rules.specs.declared.edge.Edge.{Edge}
use Rattle.rules.specs.declared.settings.Plane.{Plane}
use Rattle.rules.specs.declared.refusals.Refusal.{Refusal}
use Rattle.rules.specs.Refusals.{Answer}
use Rattle.std.specs.declared.result.Result.TheVariants.{Ok, Err}
use Rattle.std.specs.declared.result.Result.{Result}
use Rattle.rules.specs.declared.counts.Counts.{Counts}
use Rattle.rules.specs.Refusals.{answered, changed_in, stored_in}
use Rattle.rules.specs.declared.counts.Visited.{Visited}
use Rattle.rules.specs.Refusals.{counted, length_told}
use Rattle.rules.specs.Refusals.{settle}
use Rattle.rules.specs.Plane.{Grid, keeping, kept_by, is_edge, index_at, shortened_at, marks_of, indices_of, visit_of, sweep_of, column_of, turn_of, edge_at, edges_of, run_plane, run_stored, run_changed, plane_check, plane_after, plane_stored, plane_changed}
use Rattle.rules.specs.Record.{record_of, buffer_after, edges_in, edge_count, recorded_check, answer_bytes, recorded_answer, recorded_plane, recorded_buffer, recorded_stored, recorded_changed}
use Rattle.segment.specs.Fit.{InPlane}
use Rattle.records.specs.Fit.{InBytes}
use Rattle.records.proofs.RoundTrip.{record_length_holds, read_record}
use Rattle.plane.specs.Checked.{Stated as «PlaneStated»}
use Rattle.plane.proofs.Accepting.{checked}
use Rattle.plane.proofs.Everywhere.{every_edge}
use Rattle.plane.proofs.Marked.{plane_holds}
use Rattle.orders.specs.Walks.{same_edge}
use Rattle.orders.proofs.Once.{Marked, only_marked, marked_once, other_never, edges_length}
use Rattle.recorded.specs.Stated.{Stated}
use Rattle.recorded.proofs.Recording.{Passed, passed}

-- ---- what an answer says of the checks

bytes_accepted : (a : Answer) (k : ℕ) {n : ℕ} → Ok n ≡ answer_bytes a k → (a ≡ Ok tt) × (n ≡ k)
unfolding answer_bytes
bytes_accepted (Ok tt) k e = (refl, (cc))
bytes_accepted (Err r) k e = absurd (let z : ◌≡◌ {A = ℕ} 0 1 = cc in omega arith)

refused_refused : (a : Answer) (k : ℕ) {r : Refusal} → Err r ≡ answer_bytes a k → a ≡ Err r
unfolding answer_bytes
refused_refused (Ok tt) k e = absurd (let z : ◌≡◌ {A = ℕ} 0 1 = cc in omega arith)
refused_refused (Err q) k e = cc

-- ---- the numbers of every edge fit an entry's bytes

module _ (s : Plane) (steps : List ℕ) (g : Grid) (l : List ℕ) (ok : plane_check s steps g l ≡ Ok tt) where
  abbrev Inside : Edge → Type 0
  Inside e = InPlane s.stride (4 * s.cols) (4 * s.rows) e (length l)

  in_bytes : (e : Edge) → Marked s steps g e → Inside e → InBytes e
  unfolding edge_at
  in_bytes e m k =
      let z = (checked s steps g l ok).sizes_ok in
      record {
        x_fits = omega (arith, ap (λ (f : Edge). f.x) m.is, m.cell.in_cols, z.cols_most);
        y_fits = omega (arith, ap (λ (f : Edge). f.y) m.is, m.cell.in_rows, z.rows_most);
        dir_fits = omega (arith, ap (λ (f : Edge). f.dir) m.is, m.two);
        pair_fits = omega (arith, k.pair_is);
        q_fits = omega (arith, k.q_most);
        side_fits = omega (arith, k.side_most);
      }

  pub edges_in_bytes : Each InBytes (edges_of s steps g)
  edges_in_bytes =
      each_both (Marked s steps g) Inside InBytes in_bytes (edges_of s steps g)
      (only_marked s steps g (checked s steps g l ok).sizes_ok) (every_edge s steps g l ok)

-- ---- where the answer is a number of bytes

module _ (s : Plane) (steps : List ℕ) (g : Grid) (l b : List ℕ) {a : Result Visited Refusal} {n : ℕ} {m c : List ℕ} (done : Stated s steps g l b a m c) (told : length_told a ≡ Ok n) where
  accepted : (recorded_check s steps g l (length b) ≡ Ok tt) × (n ≡ length (record_of (edges_of s steps g)))
  unfolding recorded_answer
  accepted = bytes_accepted (recorded_check s steps g l (length b)) _ (sym told ∙ done.answer)

  ok : Passed s steps g l (length b)
  ok = passed s steps g l (length b) accepted.0

  -- "5 + 10 times the marked edges (column 0 and row 0 left out)"
  pub record_long : n ≡ 5 + 10 * edge_count s g
  record_long = omega (arith, accepted.1, record_length_holds (edges_of s steps g), edges_length s steps g ok.checks.sizes_ok)

  pub plane_passed : plane_check s steps g l ≡ Ok tt
  plane_passed = ok.plane

  pub plane_ran : m ≡ run_plane s steps g l
  unfolding recorded_plane settle
  plane_ran = done.plane ∙ ap (λ (a : Answer). settle a l (run_plane s steps g l)) accepted.0

  pub counts_ran : (stored_in (counted a) ≡ run_stored s steps g l) × (changed_in (counted a) ≡ run_changed s steps g l)
  unfolding recorded_stored recorded_changed settle
  counts_ran = (
    done.stored ∙ ap (λ (x : Answer). settle x 0 (run_stored s steps g l)) accepted.0,
    done.changed ∙ ap (λ (x : Answer). settle x 0 (run_changed s steps g l)) accepted.0,
  )

  -- "the plane ends as without it": the run without a record is accepted too, leaves the same plane and tells the same counts
  module _ {x : Result Counts Refusal} {p : List ℕ} (alone : «PlaneStated» s steps g l x p) where
    pub plane_as_without : (answered x ≡ Ok tt) × (m ≡ p)
    unfolding plane_after settle
    plane_as_without =
        let same : p ≡ run_plane s steps g l = alone.plane ∙ ap (λ (y : Answer). settle y l (run_plane s steps g l)) ok.plane in
        (alone.answer ∙ ok.plane, plane_ran ∙ sym same)

    pub counts_as_without : (stored_in (counted a) ≡ stored_in x) × (changed_in (counted a) ≡ changed_in x)
    unfolding plane_stored plane_changed settle
    counts_as_without = (
      counts_ran.0 ∙ sym (alone.stored ∙ ap (λ (y : Answer). settle y 0 (run_stored s steps g l)) ok.plane),
      counts_ran.1 ∙ sym (alone.changed ∙ ap (λ (y : Answer). settle y 0 (run_changed s steps g l)) ok.plane),
    )

  buffer_is : c ≡ buffer_after (edges_of s steps g) b
  unfolding recorded_buffer settle
  buffer_is = done.buffer ∙ ap (λ (a : Answer). settle a b (buffer_after (edges_of s steps g) b)) accepted.0

  -- the bytes answered are the header and the entries of document 01's edges, in their order
  pub record_is : take n c ≡ record_of (edges_of s steps g)
  unfolding buffer_after
  record_is = ap (take n) buffer_is ∙ take_at (record_of (edges_of s steps g)) _ n (sym accepted.1)

  -- "Bytes of the buffer after the record stay."
  pub rest_stays : drop n c ≡ drop n b
  unfolding buffer_after
  rest_stays = ap (drop n) buffer_is ∙ drop_at (record_of (edges_of s steps g)) _ n (sym accepted.1) ∙ ap (λ (k : ℕ). drop k b) (sym accepted.1)

  -- read again, they are those edges: "Edges of width 0 are included", since no sample decides what is listed
  pub record_edges : edges_in (take n c) ≡ edges_of s steps g
  record_edges = ap edges_in record_is ∙ read_record (edges_of s steps g) (edges_in_bytes s steps g l ok.plane)

  -- "The record lists each marked edge once and no others"
  pub listed_once : (e : Edge) → Marked s steps g e → count same_edge e (edges_in (take n c)) ≡ 1
  listed_once e k = ap (count same_edge e) record_edges ∙ marked_once s steps g ok.checks.sizes_ok e k

  pub others_not_listed : (e : Edge) → (Marked s steps g e → ⊥) → count same_edge e (edges_in (take n c)) ≡ 0
  others_not_listed e k = ap (count same_edge e) record_edges ∙ other_never s steps g ok.checks.sizes_ok e k

-- what a record says does not depend on a sample
pub record_by_grid : (s : Plane) (steps : List ℕ) (g : Grid) (l k b d : List ℕ) {x y : Result Visited Refusal} {n i : ℕ} {m o c e : List ℕ}
    → Stated s steps g l b x m c → length_told x ≡ Ok n → Stated s steps g k d y o e → length_told y ≡ Ok i → take n c ≡ take i e
record_by_grid s steps g l k b d x told y also = record_is s steps g l b x told ∙ sym (record_is s steps g k d y also)

-- nor on the keep marks
pub record_by_marks : (s : Plane) (steps v h w t q ts ks us l k b d : List ℕ) {x y : Result Visited Refusal} {n i : ℕ} {m o c e : List ℕ} → Stated s steps (keeping v h w t q ts ks) l b x m c → length_told x ≡ Ok n
    → Stated s steps (keeping v h w t q ts us) k d y o e → length_told y ≡ Ok i → take n c ≡ take i e
unfolding edges_of turn_of column_of sweep_of visit_of is_edge edge_at index_at shortened_at marks_of indices_of
record_by_marks s steps v h w t q ts ks us l k b d x told y also =
    record_is s steps (keeping v h w t q ts ks) l b x told ∙ sym (record_is s steps (keeping v h w t q ts us) k d y also)

-- ticket 7: a sample in a kept cell is as lent, accepted or refused
pub recorded_held : (s : Plane) (steps : List ℕ) (g : Grid) (l b : List ℕ) {a : Result Visited Refusal} {m c : List ℕ} → Stated s steps g l b a m c → (i : ℕ) → kept_by s g i ≡ true → get_or m i 0 ≡ get_or l i 0
unfolding recorded_plane settle
recorded_held s steps g l b done i h = ap (λ (x : List ℕ). get_or x i 0) done.plane ∙ go (recorded_check s steps g l (length b))
  where
    go : (x : Answer) → get_or (settle x l (run_plane s steps g l)) i 0 ≡ get_or l i 0
    go (Ok tt) = plane_holds s steps g l i h
    go (Err r) = refl

-- ---- "the plane and buffer stay unchanged", and ticket 4: "A refusal reports zero for both."

module _ (s : Plane) (steps : List ℕ) (g : Grid) (l b : List ℕ) {a : Result Visited Refusal} {r : Refusal} {m c : List ℕ} (done : Stated s steps g l b a m c) (told : length_told a ≡ Err r) where
  not_accepted : recorded_check s steps g l (length b) ≡ Err r
  unfolding recorded_answer
  not_accepted = refused_refused (recorded_check s steps g l (length b)) _ (sym told ∙ done.answer)

  pub refused_as_lent : (m ≡ l) × (c ≡ b)
  unfolding recorded_plane recorded_buffer settle
  refused_as_lent = (
    done.plane ∙ ap (λ (x : Answer). settle x l (run_plane s steps g l)) not_accepted,
    done.buffer ∙ ap (λ (x : Answer). settle x b (buffer_after (edges_of s steps g) b)) not_accepted,
  )

  pub refused_none : (stored_in (counted a) ≡ 0) × (changed_in (counted a) ≡ 0)
  unfolding recorded_stored recorded_changed settle
  refused_none = (
    done.stored ∙ ap (λ (x : Answer). settle x 0 (run_stored s steps g l)) not_accepted,
    done.changed ∙ ap (λ (x : Answer). settle x 0 (run_changed s steps g l)) not_accepted,
  )

-- ---- the statement leaves one result

module _ {s : Plane} {steps : List ℕ} {g : Grid} {l b : List ℕ} {a a' : Result Visited Refusal} {m m' c c' : List ℕ} (x : Stated s steps g l b a m c) (y : Stated s steps g l b a' m' c') where
  pub one_result : (length_told a ≡ length_told a') × (m ≡ m') × (c ≡ c')
  one_result = (x.answer ∙ sym y.answer, x.plane ∙ sym y.plane, x.buffer ∙ sym y.buffer)

  pub one_count : (stored_in (counted a) ≡ stored_in (counted a')) × (changed_in (counted a) ≡ changed_in (counted a'))
  one_count = (x.stored ∙ sym y.stored, x.changed ∙ sym y.changed)
