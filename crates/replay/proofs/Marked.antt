-- The keep marks that a record's run is handed are enough; and a record run with no cell kept is run as with no marks.
-- Assumes nothing.
use Rattle.std.proofs.Common.{◌≡◌, ℕ, ◌*◌, ◌/◌, ◌%◌, ◌<◌, Bool, List, length, get_or, take, sym, ap, ◌∙◌}
use Rattle.rules.specs.declared.settings.Replay.{Replay}
use Rattle.rules.specs.Refusals.{Answer}
use Rattle.std.specs.declared.result.Result.TheVariants.{Ok}
use Rattle.std.specs.declared.result.Result.{Result}
use Rattle.rules.specs.declared.counts.Counts.{Counts}
use Rattle.rules.specs.declared.refusals.Refusal.{Refusal}
use Rattle.rules.specs.Refusals.{answered}
use Rattle.rules.specs.Numbers.{top_of}
use Rattle.rules.specs.Segment.{none_kept, run_edges}
use Rattle.rules.specs.Counts.{stored_by, changed_by}
use Rattle.rules.specs.Record.{edges_in}
use Rattle.rules.specs.Replay.{replay_check}
use Rattle.checks.specs.Asked.{Asked}
use Rattle.kept.proofs.Same.{marks_agree, marks_none, run_same, stored_same, changed_same}
use Rattle.replay.specs.Fit.{in_word, held, Ran, Replayed}
use Rattle.replay.proofs.Theorems.{accepted_inside, runs_entries}

-- tests that agree on the plane's samples
module _ (s : Replay) (bytes keep l : List ℕ) (ok : replay_check s bytes keep l ≡ Ok tt) (kept : ℕ → Bool)
    (same : (i : ℕ) → i % s.stride < 4 * s.cols → i / s.stride < 4 * s.rows → kept i ≡ held s keep i) where
  pub record_run : run_edges (top_of s.depth) s.stride kept (edges_in bytes) l ≡ run_edges (top_of s.depth) s.stride (held s keep) (edges_in bytes) l
  record_run = run_same (top_of s.depth) s.stride kept (held s keep) (4 * s.cols) (4 * s.rows) (length l) same (edges_in bytes) (accepted_inside s bytes keep l ok) l

  pub record_stored : stored_by (top_of s.depth) s.stride kept (edges_in bytes) l ≡ stored_by (top_of s.depth) s.stride (held s keep) (edges_in bytes) l
  record_stored = stored_same (top_of s.depth) s.stride kept (held s keep) (4 * s.cols) (4 * s.rows) (length l) same (edges_in bytes) (accepted_inside s bytes keep l ok) l

  pub record_changed : changed_by (top_of s.depth) s.stride kept (edges_in bytes) l ≡ changed_by (top_of s.depth) s.stride (held s keep) (edges_in bytes) l
  record_changed = changed_same (top_of s.depth) s.stride kept (held s keep) (4 * s.cols) (4 * s.rows) (length l) same (edges_in bytes) (accepted_inside s bytes keep l ok) l

-- the marks that were asked for
pub ran_asked : (s : Replay) (bytes keep l : List ℕ) {a : Answer} {n x y : ℕ} {m : List ℕ} → a ≡ replay_check s bytes keep l → a ≡ Ok tt → Asked (s.rows * s.cols) keep n
    → Ran s (take n keep) (edges_in bytes) l x y m → Ran s keep (edges_in bytes) l x y m
ran_asked s bytes keep l {n = n} is e asked run =
    let ok = sym is ∙ e in
    let same = marks_agree s.cols s.rows s.stride keep (take n keep) asked.same in
    record {
      plane = run.plane ∙ record_run s bytes keep l ok (held s (take n keep)) same;
      stored_is = run.stored_is ∙ ap in_word (record_stored s bytes keep l ok (held s (take n keep)) same);
      changed_is = run.changed_is ∙ ap in_word (record_changed s bytes keep l ok (held s (take n keep)) same);
    }

-- "Without kept cells all answers stay.": the plane is that of the entries' edges with nothing kept
pub runs_unkept : (s : Replay) (bytes keep l : List ℕ) {a : Result Counts Refusal} {m : List ℕ} → Replayed s bytes keep l a m → answered a ≡ Ok tt → ((k : ℕ) → k < s.rows * s.cols → get_or keep k 0 ≡ 0)
    → m ≡ run_edges (top_of s.depth) s.stride none_kept (edges_in bytes) l
runs_unkept s bytes keep l done e zero =
    runs_entries s bytes keep l done e
    ∙ sym (record_run s bytes keep l (sym done.answer ∙ e) none_kept (λ i x y. sym (marks_none s.cols s.rows s.stride keep zero i x y)))
