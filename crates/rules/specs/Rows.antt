-- Ticket 8, "Rows as the camera sends them": the state between two calls, a call's checks in their order 15, 1 to 7, 14, 8, the edges that it does, and what it leaves.
-- Assumes nothing.
use Rattle.std.specs.Prelude.{Bool, true, false, not, List, [], ◌∷◌, ◌++◌, ℕ, ◌+◌, ◌*◌, ◌-◌, ◌/◌, ◌%◌, eqb, leb, length}
use Rattle.laws.specs.Choose.{pick, both, all}
use Rattle.rules.specs.declared.edge.Edge.{Edge}
use Rattle.rules.specs.declared.settings.Plane.{Plane}
use Rattle.rules.specs.declared.rows.RowState.{RowState}
use Rattle.rules.specs.declared.refusals.Refusal.{Refusal}
use Rattle.rules.specs.declared.refusals.Refusal.TheVariants.{Depth, Size, Length, Cell, Room, Sample, Filled, Spent}
use Rattle.rules.specs.Refusals.{Answer}
use Rattle.std.specs.declared.result.Result.TheVariants.{Ok, Err}
use Rattle.std.specs.declared.option.Option.{Option}
use Rattle.rules.specs.Numbers.{depth_ok, top_of}
use Rattle.rules.specs.Refusals.{number_of, or_else, unless, found, settle, over_box}
use Rattle.rules.specs.Thresholds.{steps_check, deltas_check}
use Rattle.rules.specs.Segment.{run_edges}
use Rattle.rules.specs.Counts.{stored_by, changed_by}
use Rattle.rules.specs.Plane.{Grid, kept_by, sweep_of, plane_sizes_ok, plane_lengths_ok, tiles_check, bad_cell, no_room}

-- "the caller begins with the state of held count 0"
abbrev pub fresh : RowState
fresh = record { held = 0; spent = false }

-- ---- the edges of a call

-- in how many of the rows of cells the horizontal edges are done, when a of them, A = 4a rows of samples, are filled:
-- "every horizontal edge with y+8 <= A", and so each row r with 4r+8 <= 4a; "At full height everything is done"
unfoldable pub ready : ℕ → ℕ → ℕ
ready rows a = pick (leb rows a) rows (a - 1)

-- the filled rows of cells grow from h to a: "every vertical edge in them is done, and every horizontal edge with y+8 <= A",
-- first the vertical edges of the new rows, then the horizontal edges that are done now and were not before
unfoldable pub band_of : Plane → List ℕ → Grid → ℕ → ℕ → List Edge
band_of s steps g h a =
    sweep_of s steps g 0 h (a - h) 0 s.cols
    ++ sweep_of s steps g 1 (ready s.rows h) (ready s.rows a - ready s.rows h) 0 s.cols

-- "the caller says how many rows of the lent plane are now filled, in multiples of 4"
unfoldable pub call_edges : Plane → List ℕ → Grid → RowState → ℕ → List Edge
call_edges s steps g st filled = band_of s steps g (st.held / 4) (filled / 4)

-- "all rows but the last twelve are final (none while A is under 12). At full height everything is done and final."
unfoldable pub final_of : ℕ → ℕ → ℕ
final_of rows filled = pick (leb (4 * rows) filled) (4 * rows) (filled - 12)

-- ---- the checks

-- "Settings, grid and room are tested at every call": document 01's checks 1 to 7 of a plane of n samples
unfoldable pub settings_check : Plane → List ℕ → Grid → ℕ → Answer
settings_check s steps g n =
    or_else (unless (depth_ok s.depth) Depth)
    (or_else (unless (plane_sizes_ok s) Size)
    (or_else (unless (plane_lengths_ok s g n) Length)
    (or_else (steps_check steps)
    (or_else (deltas_check s.deltaq s.deltaside)
    (or_else (tiles_check s.cols g.tiles)
    (or_else (found (bad_cell s g) Cell)
    (found (no_room s g) Room)))))))

-- a count "that exceeds the plane or is no multiple of 4"; the plane has 4·mi_rows rows
unfoldable pub count_ok : ℕ → ℕ → Bool
count_ok rows n = both (leb n (4 * rows)) (eqb (n % 4) 0)

-- "14 for a count, held or new, that exceeds the plane or is no multiple of 4, or a new one below the held"
unfoldable pub counts_ok : ℕ → ℕ → ℕ → Bool
counts_ok rows held filled = all (count_ok rows held ∷ count_ok rows filled ∷ leb held filled ∷ [])

-- "Only newly filled rows are tested for refusal 8"
unfoldable pub over_new : Plane → ℕ → ℕ → List ℕ → Option ℕ
over_new s held filled l = over_box (top_of s.depth) l (held * s.stride) s.stride (4 * s.cols) (filled - held)

-- "15 for a spent state; order 15, then 1 to 7 as in 01, 14, 8"
unfoldable pub rows_check : Plane → List ℕ → Grid → RowState → ℕ → List ℕ → Answer
rows_check s steps g st filled l =
    or_else (unless (not st.spent) Spent)
    (or_else (settings_check s steps g (length l))
    (or_else (unless (counts_ok s.rows st.held filled) Filled)
    (found (over_new s st.held filled l) Sample)))

-- ---- what a call leaves of a plane l and a state

-- after 8 too "the plane stays as that call found it"
unfoldable pub rows_after : Plane → List ℕ → Grid → RowState → ℕ → List ℕ → List ℕ
rows_after s steps g st filled l = settle (rows_check s steps g st filled l) l (run_edges (top_of s.depth) s.stride (kept_by s g) (call_edges s steps g st filled) l)

-- ticket 4: stored and changed samples; "A refusal reports zero for both."
unfoldable pub rows_stored : Plane → List ℕ → Grid → RowState → ℕ → List ℕ → ℕ
rows_stored s steps g st filled l = settle (rows_check s steps g st filled l) 0 (stored_by (top_of s.depth) s.stride (kept_by s g) (call_edges s steps g st filled) l)

unfoldable pub rows_changed : Plane → List ℕ → Grid → RowState → ℕ → List ℕ → ℕ
rows_changed s steps g st filled l = settle (rows_check s steps g st filled l) 0 (changed_by (top_of s.depth) s.stride (kept_by s g) (call_edges s steps g st filled) l)

-- after 8 "the state is spent", its held count kept, "and each further call is refused"; "all but 8 leave state and plane unchanged"
unfoldable pub spent_by : Refusal → RowState → RowState
spent_by r st = pick (eqb (number_of r) 8) (record { held = st.held; spent = true }) st

-- an accepted call holds the new count
unfoldable pub state_after : Answer → RowState → ℕ → RowState
state_after (Ok tt) st filled = record { held = filled; spent = false }
state_after (Err r) st filled = spent_by r st

unfoldable pub rows_state : Plane → List ℕ → Grid → RowState → ℕ → List ℕ → RowState
rows_state s steps g st filled l = state_after (rows_check s steps g st filled l) st filled

-- how many rows from the top the answer calls final; a refusal calls none so
unfoldable pub rows_final : Plane → List ℕ → Grid → RowState → ℕ → List ℕ → ℕ
rows_final s steps g st filled l = settle (rows_check s steps g st filled l) 0 (final_of s.rows filled)
