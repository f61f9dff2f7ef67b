-- A record over lists that are all zero, and by the lists that the settings have. Assumes nothing.
use Rattle.std.specs.declared.result.Result.{Result}
use mathlib.Core.Path.{◌≡◌, refl, ap, ◌∙◌}
use mathlib.Core.Bool.{Bool, true, false}
use mathlib.Core.List.{List}
use Prim.Native.Nat.{ℕ}
use lib.ListN.{length, get_or}
use Rattle.rules.specs.declared.settings.Frame.{Frame}
use Rattle.rules.specs.declared.settings.Plane.{Plane}
use Rattle.rules.specs.declared.settings.TuGrid.{TuGrid}
use Rattle.rules.specs.declared.settings.QindexGrid.{QindexGrid}
use Rattle.rules.specs.Refusals.{Answer}
use Rattle.rules.specs.declared.counts.Visited.{Visited}
use Rattle.rules.specs.declared.refusals.Refusal.{Refusal}
use Rattle.rules.specs.Refusals.{length_told}
use Rattle.rules.specs.Plane.{Grid, keeping}
use Rattle.rules.specs.TuGrid.{Marks, marks, tx_grid_after}
use Rattle.rules.specs.QindexGrid.{q_grid_after}
use Rattle.rules.specs.Frame.{with_q}
use Rattle.rules.specs.Record.{recorded_answer, recorded_buffer}
use Rattle.grid.specs.Stated.{Stated as TxStated}
use Rattle.recorded.specs.Stated.{Stated}
use Rattle.by_settings.specs.declared.lists.Lists.{Lists}
use Rattle.by_settings.specs.Lists.{lists_asked, steps_asked, between}
use Rattle.frame_checks.specs.Settings.{plane_of, tu_of, q_of}
use Rattle.frame_by_settings.specs.Deblocked.{zeros}
use Rattle.frame_by_settings.specs.Framed.{given_by, given_asked, starts_by, starts_asked}
use Rattle.gridded.specs.Spans.{leaves_from, leaves_end, tiles_from, tiles_end}
use Rattle.edge_record.specs.Noted.{dark, grid_by, bytes_of, leaves_by, tiles_by, Noted, NotedBy}

module _ (t : TuGrid) (q : QindexGrid) (leaves skips sbq ts : List ℕ) {r : Answer} {v h w x i o v' h' w' x' i' o' : List ℕ} where
  -- the grid that both entries leave of lists that were all zero
  built : TxStated t leaves skips (marks v h w x) o r (marks v' h' w' x') o' → i' ≡ q_grid_after q sbq i
      → v ≡ zeros → h ≡ zeros → w ≡ zeros → x ≡ zeros → o ≡ zeros → i ≡ zeros
      → keeping v' h' w' x' i' ts o' ≡ grid_by t q leaves skips sbq ts
  unfolding grid_by
  built e g z0 z1 z2 z3 z4 z5 =
      let d = rw (z0, z1, z2, z3, z4) at e in
      let m = tx_grid_after t leaves skips (marks zeros zeros zeros zeros) zeros in
      ap (λ (x : Marks). with_q x i' ts o') d.lists
      ∙ ap (λ (l : List ℕ). with_q m l ts o') (rw z5 at g)
      ∙ ap (λ (l : List ℕ). with_q m (q_grid_after q sbq zeros) ts l) d.cleared

  pub noted_by : (s : Plane) (steps b : List ℕ) {l m c : List ℕ} {a : Result Visited Refusal} {n : ℕ}
      → TxStated t leaves skips (marks v h w x) o r (marks v' h' w' x') o' → i' ≡ q_grid_after q sbq i
      → v ≡ zeros → h ≡ zeros → w ≡ zeros → x ≡ zeros → o ≡ zeros → i ≡ zeros → l ≡ dark
      → Stated s steps (keeping v' h' w' x' i' ts o') l b a m c → n ≡ bytes_of (length_told a)
      → Noted s steps (grid_by t q leaves skips sbq ts) b n c
  noted_by s steps b {l = l} e g z0 z1 z2 z3 z4 z5 is d k =
      let same = built e g z0 z1 z2 z3 z4 z5 in
      record {
        bytes = k ∙ ap bytes_of d.answer
            ∙ ap (λ (y : Grid). bytes_of (recorded_answer s steps y l (length b))) same
            ∙ ap (λ (p : List ℕ). bytes_of (recorded_answer s steps (grid_by t q leaves skips sbq ts) p (length b))) is;
        buffer = d.buffer
            ∙ ap (λ (y : Grid). recorded_buffer s steps y l b) same
            ∙ ap (λ (p : List ℕ). recorded_buffer s steps (grid_by t q leaves skips sbq ts) p b) is;
      }

-- the leaves of a kind of plane
by_kind : (l : Lists) (chroma : Bool) (m : ℕ) (shorts steps : List ℕ) → between shorts (leaves_from l chroma) (leaves_end l chroma) ≡ leaves_by (given_by l m shorts steps) chroma
by_kind l false m shorts steps = refl
by_kind l true m shorts steps = refl

-- its tile starts
starts_by_kind : (l : Lists) (chroma : Bool) (shorts : List ℕ) → between shorts (tiles_from l chroma) (tiles_end l chroma) ≡ tiles_by (starts_by l shorts) chroma
starts_by_kind l false shorts = refl
starts_by_kind l true shorts = refl

-- by the lists l and m steps, as the settings have them
pub noted_so : (f : Frame) (chroma : Bool) (shorts steps places b : List ℕ) (l : Lists) (m from end first last : ℕ) {s : Plane} {t : TuGrid} {q : QindexGrid} {n : ℕ} {c : List ℕ}
    → l ≡ lists_asked (length shorts) places → m ≡ steps_asked (get_or places 3 0)
    → from ≡ leaves_from l chroma → end ≡ leaves_end l chroma
    → first ≡ tiles_from l chroma → last ≡ tiles_end l chroma
    → s ≡ plane_of f chroma → t ≡ tu_of f chroma → q ≡ q_of f chroma
    → Noted s (between steps 0 m) (grid_by t q (between shorts from end) (between shorts l.skips l.skipsend) (between shorts 0 l.entries) (between shorts first last)) b n c
    → NotedBy f chroma (given_asked shorts steps places) (starts_asked shorts places) b n c
unfolding given_asked starts_asked
noted_so f chroma shorts steps places b l m from end first last is-l is_m is-from is-end is-first is_last is-s is-t is-q d =
    rw (is-l, is_m) at (rw (by_kind l chroma m shorts steps, starts_by_kind l chroma shorts) at (rw (is-from, is-end, is-first, is_last, is-s, is-t, is-q) at d))
