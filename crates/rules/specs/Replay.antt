-- Ticket 2, "Run a record again": the checks of a record and its plane in their order 1, 2, 3, 11, 12, 13, 6, 7, 8, and the plane afterwards.
-- Assumes nothing.
use Rattle.std.specs.Prelude.{Bool, List, [], ◌∷◌, ℕ, ◌-◌, ◌*◌, ◌%◌, eqb, leb, get_or, length}
use Rattle.laws.specs.Choose.{both, all}
use Rattle.low_first.specs.Bytes.{number_in}
use Rattle.rules.specs.declared.edge.Edge.{Edge}
use Rattle.rules.specs.declared.settings.Replay.{Replay}
use Rattle.rules.specs.declared.refusals.Refusal.TheVariants.{Depth, Size, Length, Header, Cut, Entry, Cell, Room, Sample}
use Rattle.rules.specs.Refusals.{Answer}
use Rattle.std.specs.declared.option.Option.{Option}
use Rattle.rules.specs.Numbers.{depth_ok, top_of, in_range}
use Rattle.rules.specs.Refusals.{or_else, unless, found, settle, first, found_unless, over_box}
use Rattle.rules.specs.Segment.{ranges_ok, has_room, kept_in, run_edges}
use Rattle.rules.specs.Counts.{stored_by, changed_by}
use Rattle.rules.specs.Plane.{bad_keep}
use Rattle.rules.specs.Record.{edge_in, entry_at, entry_count, edges_in}

-- ---- the checks

-- document 01's ranges of a plane: "mi_cols and mi_rows 1..1024. Stride 4·mi_cols..8192"
unfoldable pub replay_sizes_ok : Replay → Bool
replay_sizes_ok s = all (in_range 1 1024 s.cols ∷ in_range 1 1024 s.rows ∷ in_range (4 * s.cols) 8192 s.stride ∷ [])

-- "11 mark, version or fewer than 5 bytes": at least 5 bytes, `EDG`, version 1
unfoldable pub header_ok : List ℕ → Bool
header_ok bytes =
    all
    (leb 5 (length bytes)
    ∷ eqb (get_or bytes 0 0) 69
    ∷ eqb (get_or bytes 1 0) 68
    ∷ eqb (get_or bytes 2 0) 71
    ∷ eqb (number_in 2 bytes 3) 1
    ∷ [])

-- "12 a cut entry": the bytes after the header are no whole entries; the number is that of the entry begun last
unfoldable pub cut_entry : List ℕ → Option ℕ
cut_entry bytes = found_unless (eqb ((length bytes - 5) % 10) 0) (entry_count bytes)

-- the number of the first entry whose edge fails a test
unfoldable pub first_entry : (Edge → Bool) → List ℕ → Option ℕ
first_entry good bytes = first (entry_count bytes) (λ k. found_unless (good (edge_in bytes (entry_at k))) k)

-- "13 an entry outside 01's ranges for a segment"
abbrev pub bad_entry : List ℕ → Option ℕ
bad_entry bytes = first_entry ranges_ok bytes

-- "then 7 with its number": the edge has room in the plane's 4·mi_cols by 4·mi_rows samples
abbrev pub no_room_in : Replay → List ℕ → Option ℕ
no_room_in s bytes = first_entry (has_room (4 * s.cols) (4 * s.rows)) bytes

-- "and 8 over the whole plane"
abbrev pub over_replay : Replay → List ℕ → Option ℕ
over_replay s l = over_box (top_of s.depth) l 0 s.stride (4 * s.cols) (4 * s.rows)

-- a record's own checks: "11 .., 12 .. and 13 .., each with its number"
unfoldable pub record_check : List ℕ → Answer
record_check bytes =
    or_else (unless (header_ok bytes) Header)
    (or_else (found (cut_entry bytes) Cut)
    (found (bad_entry bytes) Entry))

-- ticket 7: "records of Ticket 2 are run with the same marks", so that their list is long enough and each mark is 0 or 1
unfoldable pub replay_long : Replay → ℕ → ℕ → Bool
replay_long s k n = both (leb (4 * s.rows * s.stride) n) (leb (s.rows * s.cols) k)

-- "in this order after 5", of which 1, 2 and 3 have an input here; then 6 by the keep marks, 7 and 8
unfoldable pub replay_check : Replay → List ℕ → List ℕ → List ℕ → Answer
replay_check s bytes keep l =
    or_else (unless (depth_ok s.depth) Depth)
    (or_else (unless (replay_sizes_ok s) Size)
    (or_else (unless (replay_long s (length keep) (length l)) Length)
    (or_else (record_check bytes)
    (or_else (found (bad_keep (s.rows * s.cols) keep) Cell)
    (or_else (found (no_room_in s bytes) Room)
    (found (over_replay s l) Sample))))))

-- ---- the run

-- "Read the record, run its edges in order, and hand back the plane."; "also one with an edge twice: the segments are applied one after the other"
unfoldable pub replay_of : Replay → List ℕ → List ℕ → List ℕ → List ℕ
replay_of s bytes keep l = run_edges (top_of s.depth) s.stride (kept_in s.cols s.stride keep) (edges_in bytes) l

-- "Refusals, all before writing"
unfoldable pub replay_after : Replay → List ℕ → List ℕ → List ℕ → List ℕ
replay_after s bytes keep l = settle (replay_check s bytes keep l) l (replay_of s bytes keep l)

-- ticket 4: stored and changed samples; "A refusal reports zero for both."
unfoldable pub replay_stored : Replay → List ℕ → List ℕ → List ℕ → ℕ
replay_stored s bytes keep l = settle (replay_check s bytes keep l) 0 (stored_by (top_of s.depth) s.stride (kept_in s.cols s.stride keep) (edges_in bytes) l)

unfoldable pub replay_changed : Replay → List ℕ → List ℕ → List ℕ → ℕ
replay_changed s bytes keep l = settle (replay_check s bytes keep l) 0 (changed_by (top_of s.depth) s.stride (kept_in s.cols s.stride keep) (edges_in bytes) l)
