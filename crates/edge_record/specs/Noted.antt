-- The record of luma or chroma by a frame and what the settings give: that of a dark plane over the grid that they make.
-- Assumes nothing.
use Rattle.std.specs.Prelude.{◌≡◌, Bool, true, false, List, ℕ, length, replicate}
use Rattle.rules.specs.declared.settings.Frame.{Frame}
use Rattle.rules.specs.declared.settings.Plane.{Plane}
use Rattle.rules.specs.declared.settings.TuGrid.{TuGrid}
use Rattle.rules.specs.declared.settings.QindexGrid.{QindexGrid}
use Rattle.std.specs.declared.result.Result.{Result}
use Rattle.rules.specs.declared.refusals.Refusal.{Refusal}
use Rattle.std.specs.declared.result.Result.TheVariants.{Ok, Err}
use Rattle.rules.specs.Plane.{Grid}
use Rattle.rules.specs.TuGrid.{marks, tx_grid_after, cleared_after}
use Rattle.rules.specs.QindexGrid.{q_grid_after}
use Rattle.rules.specs.Frame.{Given, with_q}
use Rattle.rules.specs.Record.{recorded_answer, recorded_buffer}
use Rattle.frame_checks.specs.Settings.{plane_of, tu_of, q_of}
use Rattle.frame_by_settings.specs.Deblocked.{Starts, zeros}

-- every sample of the largest plane
unfoldable pub dark : List ℕ
dark = replicate 16777216 0

-- both grids' entries over zeros, with the plane's tile starts; no cell is kept, and what a record says does not depend on it
unfoldable pub grid_by : TuGrid → QindexGrid → List ℕ → List ℕ → List ℕ → List ℕ → Grid
grid_by t q leaves skips sbq ts =
    with_q (tx_grid_after t leaves skips (marks zeros zeros zeros zeros) zeros) (q_grid_after q sbq zeros) ts
    (cleared_after t leaves skips (marks zeros zeros zeros zeros) zeros)

unfoldable pub bytes_of : Result ℕ Refusal → ℕ
bytes_of (Ok n) = n
bytes_of (Err r) = 0

-- a record of n bytes, and the buffer b afterwards
pub record Noted (s : Plane) (steps : List ℕ) (g : Grid) (b : List ℕ) (n : ℕ) (c : List ℕ) : Type 0 where
  pub bytes : n ≡ bytes_of (recorded_answer s steps g dark (length b))
  pub buffer : c ≡ recorded_buffer s steps g dark b

-- luma's leaves, or chroma's
abbrev pub leaves_by : Given → Bool → List ℕ
leaves_by g false = g.leaves
leaves_by g true = g.chroma_leaves

-- luma's tile starts, or chroma's
abbrev pub tiles_by : Starts → Bool → List ℕ
tiles_by t false = t.luma
tiles_by t true = t.chroma

-- luma's record, or chroma's
abbrev pub NotedBy : Frame → Bool → Given → Starts → List ℕ → ℕ → List ℕ → Type 0
NotedBy f chroma g t =
    Noted (plane_of f chroma) g.steps (grid_by (tu_of f chroma) (q_of f chroma) (leaves_by g chroma) g.skips g.sbq (tiles_by t chroma))
