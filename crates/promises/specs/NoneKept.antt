-- A plane's checks, run and counts as they were before cells could be kept.
-- Assumes nothing.
use Rattle.std.specs.Prelude.{Bool, List, [], ◌∷◌, ℕ, ◌*◌, leb, length, get_or}
use Rattle.laws.specs.Choose.{all}
use Rattle.laws.specs.Stores.{Store, puts}
use Rattle.laws.specs.Changes.{changes}
use Rattle.laws.specs.Trace.{run, total}
use Rattle.rules.specs.declared.edge.Edge.{Edge}
use Rattle.rules.specs.declared.settings.Plane.{Plane}
use Rattle.rules.specs.declared.refusals.Refusal.TheVariants.{Depth, Size, Length, Cell, Room, Sample}
use Rattle.rules.specs.Refusals.{Answer}
use Rattle.rules.specs.Numbers.{depth_ok}
use Rattle.rules.specs.Refusals.{or_else, unless, found, first, found_unless}
use Rattle.rules.specs.Thresholds.{steps_check, deltas_check}
use Rattle.rules.specs.Segment.{edge_place, window_of, stores_of}
use Rattle.rules.specs.Plane.{Grid, tiled, plane_sizes_ok, tiles_check, no_room, over_plane}

-- the cells without their keep marks
abbrev pub unmarked : Grid → Grid
unmarked g = tiled g.vedge g.hedge g.sqw g.sqh g.qindex g.tiles

-- ---- the checks

-- "a plane's lent length at least stride·4·mi_rows"; "Each list has at least mi_cols·mi_rows entries."
unfoldable pub lengths_before : Plane → Grid → ℕ → Bool
lengths_before s g n =
    all
    (leb (4 * s.rows * s.stride) n
    ∷ leb (s.rows * s.cols) (length g.vedge)
    ∷ leb (s.rows * s.cols) (length g.hedge)
    ∷ leb (s.rows * s.cols) (length g.sqw)
    ∷ leb (s.rows * s.cols) (length g.sqh)
    ∷ leb (s.rows * s.cols) (length g.qindex)
    ∷ [])

-- "Grid cells: two marks (0 or 1) and two size indices 0..6."
unfoldable pub good_before : Grid → ℕ → Bool
good_before g k = all (leb (get_or g.vedge k 0) 1 ∷ leb (get_or g.hedge k 0) 1 ∷ leb (get_or g.sqw k 0) 6 ∷ leb (get_or g.sqh k 0) 6 ∷ [])

unfoldable pub check_before : Plane → List ℕ → Grid → List ℕ → Answer
check_before s steps g l =
    or_else (unless (depth_ok s.depth) Depth)
    (or_else (unless (plane_sizes_ok s) Size)
    (or_else (unless (lengths_before s g (length l)) Length)
    (or_else (steps_check steps)
    (or_else (deltas_check s.deltaq s.deltaside)
    (or_else (tiles_check s.cols g.tiles)
    (or_else (found (first (s.rows * s.cols) (λ k. found_unless (good_before g k) k)) Cell)
    (or_else (found (no_room s g) Room)
    (found (over_plane s l) Sample))))))))

-- ---- the run: every store of every edge

abbrev pub stores_before : ℕ → ℕ → Edge → List ℕ → List Store
stores_before top stride e l = stores_of top (edge_place stride e) (window_of (edge_place stride e) l)

abbrev pub segment_before : ℕ → ℕ → Edge → List ℕ → List ℕ
segment_before top stride e l = puts (stores_before top stride e l) l

unfoldable pub run_before : ℕ → ℕ → List Edge → List ℕ → List ℕ
run_before top stride es l = run (segment_before top stride) es l

unfoldable pub stored_before : ℕ → ℕ → List Edge → List ℕ → ℕ
stored_before top stride es l = total (segment_before top stride) (λ e m. length (stores_before top stride e m)) es l

unfoldable pub changed_before : ℕ → ℕ → List Edge → List ℕ → ℕ
changed_before top stride es l = total (segment_before top stride) (λ e m. changes (stores_before top stride e m) m) es l
