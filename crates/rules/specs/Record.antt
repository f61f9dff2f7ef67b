-- Ticket 1, "A written record of every edge", and ticket 2, "Run a record again": a list of edges as bytes, and the edges that bytes stand for.
-- Assumes nothing.
use Rattle.std.specs.Prelude.{List, [], ◌∷◌, ◌++◌, ℕ, ◌+◌, ◌*◌, ◌-◌, ◌/◌, leb, length, get_or, drop}
use Rattle.laws.specs.Loops.{each}
use Rattle.laws.specs.Sums.{sum}
use Rattle.laws.specs.Tests.{bit}
use Rattle.low_first.specs.Bytes.{low_first, number_in}
use Rattle.rules.specs.declared.edge.Edge.{Edge}
use Rattle.rules.specs.declared.settings.Plane.{Plane}
use Rattle.rules.specs.declared.refusals.Refusal.TheVariants.{Buffer}
use Rattle.rules.specs.Refusals.{Answer}
use Rattle.std.specs.declared.result.Result.TheVariants.{Ok, Err}
use Rattle.std.specs.declared.result.Result.{Result}
use Rattle.rules.specs.declared.refusals.Refusal.{Refusal}
use Rattle.rules.specs.Refusals.{or_else, unless, settle}
use Rattle.rules.specs.Plane.{Grid, is_edge, edges_of, run_plane, run_stored, run_changed, plane_check}

-- ---- ticket 1: the bytes

-- "header mark `EDG`, a 16-bit version 1"
abbrev pub header : List ℕ
header = 69 ∷ 68 ∷ 71 ∷ 1 ∷ 0 ∷ []

-- "x, y, direction, length pair number 0..7, q, side (2,2,1,1,2,2 bytes, low byte first)"
unfoldable pub entry_of : Edge → List ℕ
entry_of e = low_first 2 e.x ++ (low_first 2 e.y ++ ((e.dir ∷ e.pair ∷ []) ++ (low_first 2 e.q ++ low_first 2 e.side)))

-- "one entry for each visited edge"
unfoldable pub entries_of : List Edge → List ℕ
entries_of [] = []
entries_of (e ∷ es) = entry_of e ++ entries_of es

unfoldable pub record_of : List Edge → List ℕ
record_of es = header ++ entries_of es

-- "Bytes of the buffer after the record stay."
unfoldable pub buffer_after : List Edge → List ℕ → List ℕ
buffer_after es buffer = record_of es ++ drop (length (record_of es)) buffer

-- ---- ticket 1: a plane's run that writes its record into a lent buffer

-- "the marked edges (column 0 and row 0 left out)"
unfoldable pub edge_count : Plane → Grid → ℕ
edge_count s g = sum s.rows (λ r. sum s.cols (λ c. bit (is_edge s g 0 r c) + bit (is_edge s g 1 r c)))

-- "10, room less than 5 + 10 times the marked edges, tested after 8"; n is the buffer's length, which no other check looks at
unfoldable pub recorded_check : Plane → List ℕ → Grid → List ℕ → ℕ → Answer
recorded_check s steps g l n = or_else (plane_check s steps g l) (unless (leb (5 + 10 * edge_count s g) n) Buffer)

-- "and answer its length"
unfoldable pub answer_bytes : Answer → ℕ → Result ℕ Refusal
answer_bytes (Ok tt) n = Ok n
answer_bytes (Err r) n = Err r

unfoldable pub recorded_answer : Plane → List ℕ → Grid → List ℕ → ℕ → Result ℕ Refusal
recorded_answer s steps g l n = answer_bytes (recorded_check s steps g l n) (length (record_of (edges_of s steps g)))

-- "the plane ends as without it"; refused, "the plane and buffer stay unchanged"
unfoldable pub recorded_plane : Plane → List ℕ → Grid → List ℕ → ℕ → List ℕ
recorded_plane s steps g l n = settle (recorded_check s steps g l n) l (run_plane s steps g l)

-- ticket 4: stored and changed samples; "A refusal reports zero for both."
unfoldable pub recorded_stored : Plane → List ℕ → Grid → List ℕ → ℕ → ℕ
recorded_stored s steps g l n = settle (recorded_check s steps g l n) 0 (run_stored s steps g l)

unfoldable pub recorded_changed : Plane → List ℕ → Grid → List ℕ → ℕ → ℕ
recorded_changed s steps g l n = settle (recorded_check s steps g l n) 0 (run_changed s steps g l)

-- "one entry for each visited edge in 01's order"
unfoldable pub recorded_buffer : Plane → List ℕ → Grid → List ℕ → List ℕ → List ℕ
recorded_buffer s steps g l buffer = settle (recorded_check s steps g l (length buffer)) buffer (buffer_after (edges_of s steps g) buffer)

-- ---- ticket 2: the edges that bytes stand for

-- the entry at a place
unfoldable pub edge_in : List ℕ → ℕ → Edge
edge_in bytes at = record {
  x = number_in 2 bytes at;
  y = number_in 2 bytes (at + 2);
  dir = get_or bytes (at + 4) 0;
  pair = get_or bytes (at + 5) 0;
  q = number_in 2 bytes (at + 6);
  side = number_in 2 bytes (at + 8);
}

-- where entry k stands, and how many whole entries there are
unfoldable pub entry_at : ℕ → ℕ
entry_at k = 5 + 10 * k

unfoldable pub entry_count : List ℕ → ℕ
entry_count bytes = (length bytes - 5) / 10

unfoldable pub edges_in : List ℕ → List Edge
edges_in bytes = each (entry_count bytes) (λ k. edge_in bytes (entry_at k) ∷ [])
