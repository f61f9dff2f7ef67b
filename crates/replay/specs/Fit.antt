-- What is known of a record and its plane at each stage of their checks, and the entry's statement.
-- Assumes nothing.
use Rattle.std.specs.Prelude.{◌≡◌, ℕ, ◌*◌, ◌%◌, ◌≤◌, Bool, true, List, length}
use Rattle.rules.specs.declared.edge.Edge.{Edge}
use Rattle.rules.specs.declared.settings.Replay.{Replay}
use Rattle.rules.specs.declared.refusals.Refusal.TheVariants.{Cell, Room, Sample}
use Rattle.rules.specs.Refusals.{Answer}
use Rattle.std.specs.declared.result.Result.{Result}
use Rattle.rules.specs.declared.counts.Counts.{Counts}
use Rattle.rules.specs.declared.refusals.Refusal.{Refusal}
use Rattle.rules.specs.Refusals.{answered, changed_in, stored_in}
use Rattle.std.specs.declared.option.Option.TheVariants.{None}
use Rattle.rules.specs.Numbers.{depth_ok, top_of}
use Rattle.rules.specs.Refusals.{or_else, found}
use Rattle.rules.specs.Segment.{kept_in, run_edges}
use Rattle.rules.specs.Counts.{stored_by, changed_by}
use Rattle.rules.specs.Plane.{bad_keep}
use Rattle.rules.specs.Replay.{bad_entry, no_room_in, over_replay, replay_check, replay_after, replay_stored, replay_changed}

-- the sizes are in range
pub record Sized (s : Replay) : Type 0 where
  pub cols_most : s.cols ≤ 1024
  pub rows_most : s.rows ≤ 1024
  pub row : 4 * s.cols ≤ s.stride
  pub stride_most : s.stride ≤ 8192

-- there is a header, and every entry is in range
pub record Ranged (bytes : List ℕ) : Type 0 where
  pub header_there : 5 ≤ length bytes
  pub entries_ok : bad_entry bytes ≡ None

-- a good record, a plane of so many samples and so many keep marks, before 6, 7 and 8 are asked
pub record Roomy (s : Replay) (bytes : List ℕ) (size marks : ℕ) : Type 0 where
  pub depth : depth_ok s.depth ≡ true
  pub sized : Sized s
  pub ranged : Ranged bytes
  pub plane_long : 4 * s.rows * s.stride ≤ size
  pub keep_long : s.rows * s.cols ≤ marks

-- checks 6, 7 and 8
unfoldable pub room_check : Replay → List ℕ → List ℕ → List ℕ → Answer
room_check s bytes keep l = or_else (found (bad_keep (s.rows * s.cols) keep) Cell) (or_else (found (no_room_in s bytes) Room) (found (over_replay s l) Sample))

-- a record whose edges all have room in a plane of so many samples
pub record Runnable (s : Replay) (bytes : List ℕ) (size top : ℕ) : Type 0 where
  pub sized : Sized s
  pub ranged : Ranged bytes
  pub room : no_room_in s bytes ≡ None
  pub plane_long : 4 * s.rows * s.stride ≤ size
  pub top_is : top ≡ top_of s.depth

-- a count as a number of 64 bits holds it. A record may list an edge again and again, so a lent list may in principle be long enough that the sum
-- passes 64 bits; below 2^58 entries, nearly three million terabytes, it is the count itself (`counts_exact`)
abbrev pub in_word : ℕ → ℕ
in_word n = n % 18446744073709551616

-- the samples that a list of keep marks keeps
abbrev pub held : Replay → List ℕ → ℕ → Bool
held s keep = kept_in s.cols s.stride keep

-- what a run of edges on a plane l tells, and the plane m that it leaves
pub record Ran (s : Replay) (keep : List ℕ) (es : List Edge) (l : List ℕ) (stored changed : ℕ) (m : List ℕ) : Type 0 where
  pub plane : m ≡ run_edges (top_of s.depth) s.stride (held s keep) es l
  pub stored_is : stored ≡ in_word (stored_by (top_of s.depth) s.stride (held s keep) es l)
  pub changed_is : changed ≡ in_word (changed_by (top_of s.depth) s.stride (held s keep) es l)

-- all that the entry states: its answer a with the counts, and the plane afterwards m, of a plane l
pub record Replayed (s : Replay) (bytes keep l : List ℕ) (a : Result Counts Refusal) (m : List ℕ) : Type 0 where
  pub answer : answered a ≡ replay_check s bytes keep l
  pub plane : m ≡ replay_after s bytes keep l
  pub stored : stored_in a ≡ in_word (replay_stored s bytes keep l)
  pub changed : changed_in a ≡ in_word (replay_changed s bytes keep l)
