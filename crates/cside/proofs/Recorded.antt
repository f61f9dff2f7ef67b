-- What C is told of a recorded plane by its settings as a list, and that the bytes of its record are few.
-- Assumes nothing.
use mathlib.Core.Path.{◌≡◌, refl, sym, ap, ap₂, ◌∙◌}
use mathlib.Core.List.{List}
use Prim.Native.Nat.{ℕ}
use native.Mathlib.Omega.{arith}
use borrow.Author.Rules.{rules}
use lib.ListN.{length}
use lib.IntN.{ℤ}
use mir.Syntax.{w32}
use mir.Val.{to_z, of_z}
use Rattle.rules.specs.declared.settings.Plane.{Plane}
use Rattle.rules.specs.declared.refusals.Refusal.{Refusal}
use Rattle.rules.specs.Refusals.{Answer}
use Rattle.std.specs.declared.result.Result.TheVariants.{Ok, Err}
use Rattle.rules.specs.declared.counts.Visited.{Visited}
use Rattle.rules.specs.Refusals.{changed_in, counted, length_told, stored_in}
use Rattle.std.specs.declared.result.Result.{Result}
use Rattle.rules.specs.declared.refusals.Refusal.{Refusal}
use Rattle.rules.specs.Refusals.{settle}
use Rattle.rules.specs.Plane.{Grid, edges_of, run_plane, run_stored, run_changed}
use Rattle.rules.specs.Record.{buffer_after, recorded_check, answer_bytes, recorded_answer, recorded_plane, recorded_buffer, recorded_stored, recorded_changed}
use Rattle.checks.proofs.Checks.{stop_by, go_on_by, settle_refused}
use Rattle.records.proofs.RoundTrip.{record_length_holds}
use Rattle.recorded.specs.Stated.{Stated}
use Rattle.recorded.proofs.Recording.{passed}
use Rattle.answers.specs.Told.{Counted, Told, Few, refusal_in, bytes_in, tallied}
use Rattle.answers.proofs.Numbers.{refused_by_holds, counted_by}
use Rattle.numbers.specs.Settings.{plane_of}
use Rattle.by_list.specs.Planes.{list_check, c_record_check, record_length, c_record_plane, c_record_buffer, c_record_stored, c_record_changed, RecordTold}
use Rattle.by_list.proofs.Lists.{plane_long}

-- bytes are answered by an accepted check alone
from_bytes : (check : Answer) (k : ℕ) {n : ℕ} → answer_bytes check k ≡ Ok n → (check ≡ Ok tt) × (n ≡ k)
unfolding answer_bytes
from_bytes (Ok tt) k e = (refl, cc)
from_bytes (Err r) k e = absurd (let z : ◌≡◌ {A = ℕ} 0 1 = cc in omega arith)

-- an accepted plane has at most 2·1024·1024 edges
pub record_few : (s : Plane) (steps : List ℕ) (g : Grid) (l : List ℕ) (room : ℕ) {a : Result ℕ Refusal} → a ≡ recorded_answer s steps g l room → Few a
unfolding recorded_answer
record_few s steps g l room is n e =
    let p = from_bytes _ _ (sym is ∙ e) in
    omega (arith, p.1, record_length_holds (edges_of s steps g), (passed s steps g l room p.0).few)

-- so are the bytes that the entry answers
pub record_held : (s : Plane) (steps : List ℕ) (g : Grid) (l b : List ℕ) {x : Result Visited Refusal} {m c : List ℕ} → Stated s steps g l b x m c → Few (length_told x)
record_held s steps g l b d = record_few s steps g l (length b) d.answer

module _ (settings : List ℤ) (steps : List ℕ) (g : Grid) (l b : List ℕ) {a : Answer} (is : a ≡ list_check settings) {p q k t : List ℕ} {z : ℤ} where
  pub record_refused : {r : Refusal} → a ≡ Err r → Told (Err r) p z q × (t ≡ tallied 0 0 k) → RecordTold settings steps g l b p k (to_z w32 (of_z w32 z)) l b q t
  unfolding c_record_check c_record_plane c_record_buffer c_record_stored c_record_changed
  record_refused {r} e u =
      let no : Err r ≡ c_record_check settings steps g l (length b) = stop_by _ _ _ is e in
      record {
        told = refused_by_holds _ no u.0;
        plane = settle_refused _ _ _ no;
        buffer = settle_refused _ _ _ no;
        counts_are = u.1 ∙ ap₂ (λ (s c : ℕ). tallied s c k) (settle_refused _ _ _ no) (settle_refused _ _ _ no);
      }

  pub record_told : {s : Plane} {x : Result Visited Refusal} {m c : List ℕ} → a ≡ Ok tt → s ≡ plane_of settings → Stated s steps g l b x m c
      → Counted (refusal_in (length_told x)) (bytes_in (length_told x)) p z q × (t ≡ tallied (stored_in (counted x)) (changed_in (counted x)) k)
      → RecordTold settings steps g l b p k (to_z w32 (of_z w32 z)) m c q t
  unfolding c_record_check c_record_plane c_record_buffer c_record_stored c_record_changed record_length recorded_answer recorded_plane recorded_buffer recorded_stored recorded_changed
  record_told {s} {x} {m} {c} e read d u =
      let w : Stated (plane_of settings) steps g l b x m c = rw read at d in
      let own : recorded_check (plane_of settings) steps g l (length b) ≡ c_record_check settings steps g l (length b) = go_on_by _ _ _ _ is e refl in
      record {
        told = counted_by _ _ (w.answer ∙ ap (λ (x : Answer). answer_bytes x (record_length settings steps g)) own) (record_held _ _ _ _ _ w) u.0;
        plane = w.plane ∙ ap (λ (x : Answer). settle x l (run_plane (plane_of settings) steps g l)) own;
        buffer = w.buffer ∙ ap (λ (x : Answer). settle x b (buffer_after (edges_of (plane_of settings) steps g) b)) own;
        counts_are =
            u.1
            ∙ ap₂ (λ (s c : ℕ). tallied s c k) (w.stored ∙ ap (λ (x : Answer). settle x 0 (run_stored (plane_of settings) steps g l)) own) (w.changed ∙ ap (λ (x : Answer). settle x 0 (run_changed (plane_of settings) steps g l)) own);
      }

pub ruleset recordings = (rules, plane_long, record_refused, record_told)
