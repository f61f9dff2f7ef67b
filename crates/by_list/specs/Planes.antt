-- What a plane's entries tell C: alone, with its record, and of a record that is run again.
-- Assumes nothing.
use Rattle.std.specs.Prelude.{◌≡◌, List, ℕ, leb, length, ℤ}
use Rattle.rules.specs.declared.refusals.Refusal.TheVariants.{Depth, Size}
use Rattle.rules.specs.Refusals.{Answer}
use Rattle.rules.specs.Numbers.{depth_ok, top_of}
use Rattle.rules.specs.Refusals.{or_else, unless, settle}
use Rattle.rules.specs.Segment.{kept_in}
use Rattle.rules.specs.Counts.{stored_by, changed_by}
use Rattle.rules.specs.Plane.{Grid, edges_of, plane_check, run_plane, run_stored, run_changed}
use Rattle.rules.specs.Record.{edges_in, record_of, buffer_after, recorded_check}
use Rattle.rules.specs.Replay.{replay_check, replay_of}
use Rattle.replay.specs.Fit.{in_word}
use Rattle.answers.specs.Told.{listed, tallied, Counted, FilterTold}
use Rattle.numbers.specs.Settings.{count_at, plane_of, replay_settings}

-- a chroma other than 0 and 1 is refused by 2, after 1 as in document 01's order
unfoldable pub list_check : List ℤ → Answer
list_check settings = listed 11 settings (or_else (unless (depth_ok (count_at settings 8)) Depth) (unless (leb (count_at settings 7) 1) Size))

unfoldable pub c_plane_check : List ℤ → List ℕ → Grid → List ℕ → Answer
c_plane_check settings steps g l = or_else (list_check settings) (plane_check (plane_of settings) steps g l)

-- what C is told: the answer n, and the plane m
abbrev pub PlaneTold : List ℤ → List ℕ → Grid → List ℕ → List ℕ → List ℕ → ℤ → List ℕ → List ℕ → List ℕ → Type 0
PlaneTold settings steps g l place counts n m placed tally =
    let s = plane_of settings in
    FilterTold (c_plane_check settings steps g l) l (run_plane s steps g l) (run_stored s steps g l) (run_changed s steps g l) place counts n m placed tally

-- ---- ticket 1: a plane's run that writes its record

-- n is the length of the record's buffer
unfoldable pub c_record_check : List ℤ → List ℕ → Grid → List ℕ → ℕ → Answer
c_record_check settings steps g l n = or_else (list_check settings) (recorded_check (plane_of settings) steps g l n)

-- "and answer its length"
unfoldable pub record_length : List ℤ → List ℕ → Grid → ℕ
record_length settings steps g = length (record_of (edges_of (plane_of settings) steps g))

-- the plane l and the buffer b afterwards
unfoldable pub c_record_plane : List ℤ → List ℕ → Grid → List ℕ → List ℕ → List ℕ
c_record_plane settings steps g l b = settle (c_record_check settings steps g l (length b)) l (run_plane (plane_of settings) steps g l)

unfoldable pub c_record_buffer : List ℤ → List ℕ → Grid → List ℕ → List ℕ → List ℕ
c_record_buffer settings steps g l b = settle (c_record_check settings steps g l (length b)) b (buffer_after (edges_of (plane_of settings) steps g) b)

-- ticket 4: stored and changed samples
unfoldable pub c_record_stored : List ℤ → List ℕ → Grid → List ℕ → List ℕ → ℕ
c_record_stored settings steps g l b = settle (c_record_check settings steps g l (length b)) 0 (run_stored (plane_of settings) steps g l)

unfoldable pub c_record_changed : List ℤ → List ℕ → Grid → List ℕ → List ℕ → ℕ
c_record_changed settings steps g l b = settle (c_record_check settings steps g l (length b)) 0 (run_changed (plane_of settings) steps g l)

-- what C is told: the answer n, the plane m and the buffer c
pub record RecordTold (settings : List ℤ) (steps : List ℕ) (g : Grid) (l b place counts : List ℕ) (n : ℤ) (m c placed tally : List ℕ) : Type 0 where
  pub told : Counted (c_record_check settings steps g l (length b)) (record_length settings steps g) place n placed
  pub plane : m ≡ c_record_plane settings steps g l b
  pub buffer : c ≡ c_record_buffer settings steps g l b
  pub counts_are : tally ≡ tallied (c_record_stored settings steps g l b) (c_record_changed settings steps g l b) counts

-- ---- ticket 2: a record that is run again

-- ticket 4: its stored and changed samples, in the machine's word
abbrev pub replay_counts : List ℤ → List ℕ → List ℕ → List ℕ → ℕ × ℕ
replay_counts settings bytes keep l =
    let s = replay_settings settings in
    let kept = kept_in s.cols s.stride keep in
    (in_word (stored_by (top_of s.depth) s.stride kept (edges_in bytes) l), in_word (changed_by (top_of s.depth) s.stride kept (edges_in bytes) l))

-- what C is told: the answer n, and the plane m
abbrev pub ReplayTold : List ℤ → List ℕ → List ℕ → List ℕ → List ℕ → List ℕ → ℤ → List ℕ → List ℕ → List ℕ → Type 0
ReplayTold settings bytes keep l place counts n m placed tally =
    let s = replay_settings settings in
    let k = replay_counts settings bytes keep l in
    FilterTold (listed 4 settings (replay_check s bytes keep l)) l (replay_of s bytes keep l) k.0 k.1 place counts n m placed tally
