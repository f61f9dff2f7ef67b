-- The entry at each of its ways out: the checks with the record's room, and the record that an accepted plane's run leaves.
-- Assumes nothing.
use mathlib.Core.Path.{◌≡◌, refl, sym, ap, ◌∙◌}
use mathlib.Core.List.{List}
use Prim.Native.Nat.{ℕ, ◌+◌, ◌*◌, ◌≤◌, ◌<◌}
use native.Mathlib.Nat.{mul-le-mul}
use native.Mathlib.Omega.{arith}
use borrow.Author.Tests.{leb-true}
use lib.ListN.{length}
use lib.Seq.{sets}
use Rattle.laws.specs.Choose.{is_le, not_le}
use Rattle.rules.specs.declared.settings.Plane.{Plane}
use Rattle.rules.specs.declared.refusals.Refusal.{Refusal}
use Rattle.rules.specs.declared.refusals.Refusal.TheVariants.{Buffer}
use Rattle.rules.specs.Refusals.{Answer}
use Rattle.std.specs.declared.result.Result.TheVariants.{Ok, Err}
use Rattle.rules.specs.Refusals.{settle}
use Rattle.rules.specs.Plane.{Grid, keeping, edges_of, run_plane, plane_check}
use Rattle.rules.specs.Record.{header, record_of, edge_count, recorded_check, answer_bytes, recorded_answer, recorded_plane, recorded_buffer, recorded_stored, recorded_changed}
use Rattle.checks.proofs.Checks.{stop_by, go_on_by, unless_bad, unless_good, unless_true, else_parts, settle_refused_by, settle_accepted_by}
use Rattle.records.proofs.RoundTrip.{record_length_holds}
use Rattle.records.proofs.Noted.{record_noted}
use Rattle.rules.specs.declared.counts.Visited.{Visited}
use Rattle.plane.specs.Checked.{Checked, Noted}
use Rattle.plane.proofs.Accepting.{lengths, checked}
use Rattle.orders.proofs.Once.{edges_length, edges_most}
use Rattle.recorded.specs.Count.{Marks}
use Rattle.recorded.specs.Stated.{Stated}

-- ---- the checks

module _ (s : Plane) (steps : List ℕ) (g : Grid) (l : List ℕ) (n : ℕ) {a : Answer} (is : a ≡ plane_check s steps g l) where
  pub plane_refused : {r : Refusal} → a ≡ Err r → Err r ≡ recorded_check s steps g l n
  unfolding recorded_check
  plane_refused e = stop_by _ _ _ is e

  pub room_refused : {k : ℕ} → a ≡ Ok tt → k ≡ edge_count s g → n < 5 + 10 * k → Err Buffer ≡ recorded_check s steps g l n
  unfolding recorded_check
  room_refused e count h = go_on_by _ _ _ _ is e (unless_bad _ _ (not_le (5 + 10 * edge_count s g) n (omega arith)))

  pub room_given : {k : ℕ} → a ≡ Ok tt → k ≡ edge_count s g → 5 + 10 * k ≤ n → Ok tt ≡ recorded_check s steps g l n
  unfolding recorded_check
  room_given e count h = go_on_by _ _ _ _ is e (unless_good _ _ (is_le (5 + 10 * edge_count s g) n (omega arith)))

-- what the count asks
pub marks_by : (s : Plane) (steps : List ℕ) (v h w t q ts ks l : List ℕ) {a : Answer} → a ≡ plane_check s steps (keeping v h w t q ts ks) l → a ≡ Ok tt → Marks s (length v) (length h)
marks_by s steps v h w t q ts ks l is e =
    let k = checked s steps (keeping v h w t q ts ks) l (sym is ∙ e) in
    let long = lengths s (keeping v h w t q ts ks) (length l) k.lengths in
    record { sizes_ok = k.sizes_ok; vedge = long.lists.vedge; hedge = long.lists.hedge }

-- ---- an accepted plane with room for its record

pub record Passed (s : Plane) (steps : List ℕ) (g : Grid) (l : List ℕ) (n : ℕ) : Type 0 where
  pub plane : plane_check s steps g l ≡ Ok tt
  pub checks : Checked s steps g (length l)
  pub room : 5 + 10 * edge_count s g ≤ n
  pub fits : 5 + 10 * length (edges_of s steps g) ≤ n
  pub few : length (edges_of s steps g) ≤ 2097152

pub passed : (s : Plane) (steps : List ℕ) (g : Grid) (l : List ℕ) (n : ℕ) → recorded_check s steps g l n ≡ Ok tt → Passed s steps g l n
unfolding recorded_check
passed s steps g l n e =
    let p = else_parts _ _ e in
    let k = checked s steps g l p.0 in
    let room = leb-true (5 + 10 * edge_count s g) n (unless_true _ Buffer p.1) in
    let z = k.sizes_ok in
    let wide : 2 * s.cols ≤ 2048 = omega (arith, z.cols_most) in
    let all : 2 * s.cols * s.rows ≤ 2048 * 1024 = mul-le-mul wide z.rows_most in
    record { plane = p.0; checks = k; room = room; fits = omega (arith, edges_length s steps g z); few = omega (arith, edges_most s steps g z) }

pub passed_by : (s : Plane) (steps : List ℕ) (g : Grid) (l : List ℕ) (n : ℕ) {a : Answer} → a ≡ recorded_check s steps g l n → a ≡ Ok tt → Passed s steps g l n
passed_by s steps g l n is e = passed s steps g l n (sym is ∙ e)

-- ---- the entry

module _ (s : Plane) (steps : List ℕ) (g : Grid) (l b : List ℕ) {a : Answer} (is : a ≡ recorded_check s steps g l (length b)) where
  pub stated_refused : {r : Refusal} → a ≡ Err r → Stated s steps g l b (Err r) l b
  unfolding recorded_answer answer_bytes recorded_plane recorded_buffer recorded_stored recorded_changed
  stated_refused e = record {
    answer = rw (← is, e);
    plane = settle_refused_by _ _ _ _ is e;
    buffer = settle_refused_by _ _ _ _ is e;
    stored = settle_refused_by _ _ _ _ is e;
    changed = settle_refused_by _ _ _ _ is e;
  }

  pub stated_run : {x : Visited} {h m c : List ℕ} → a ≡ Ok tt → h ≡ sets b 0 header → Noted s steps g l h x m c
      → Stated s steps g l b (Ok x) m c
  unfolding recorded_answer answer_bytes recorded_plane recorded_buffer recorded_stored recorded_changed
  stated_run {x} e head run =
      let size : x.bytes ≡ length (record_of (edges_of s steps g)) = run.visited ∙ sym (record_length_holds (edges_of s steps g)) in
      record {
        answer = rw (← is, e) (ap Ok size);
        plane = settle_accepted_by _ _ _ _ _ is e run.plane;
        buffer = settle_accepted_by _ _ _ _ _ is e (record_noted (edges_of s steps g) b (passed_by s steps g l (length b) is e).fits head run.buffer);
        stored = settle_accepted_by _ _ _ _ _ is e run.stored;
        changed = settle_accepted_by _ _ _ _ _ is e run.changed;
      }
