-- Document 01, "plane": the edge of a cell, all edges in their order, and the checks 1 to 8 of a plane.
-- Assumes nothing.
use Rattle.std.specs.Prelude.{Bool, true, false, List, [], ◌∷◌, ◌++◌, ℕ, zero, suc, ◌+◌, ◌*◌, ◌-◌, ◌/◌, ◌%◌, min, eqb, ltb, leb, get_or, length, ℤ}
use Rattle.laws.specs.Choose.{pick, either, both, all}
use Rattle.laws.specs.Loops.{each}
use Rattle.rules.specs.declared.edge.Edge.{Edge}
use Rattle.rules.specs.declared.settings.Plane.{Plane}
use Rattle.rules.specs.declared.refusals.Refusal.TheVariants.{Depth, Size, Length, Steps, Setting, Cell, Room, Sample}
use Rattle.rules.specs.Refusals.{Answer}
use Rattle.std.specs.declared.option.Option.{Option}
use Rattle.rules.specs.Numbers.{depth_ok, top_of, in_range}
use Rattle.rules.specs.Refusals.{or_else, unless, found, settle, sooner, first, found_if, found_unless, over_top, over_box}
use Rattle.rules.specs.Thresholds.{q_threshold, side_threshold, steps_check, deltas_check}
use Rattle.rules.specs.Lengths.{pair_of}
use Rattle.rules.specs.Segment.{has_room, kept_in, run_edges}
use Rattle.rules.specs.Counts.{stored_by, changed_by}

-- what is known of the cells: two marks, two size indices and the qindex of each;
-- document 02, ticket 5: "a list of tile-start columns in cells"; ticket 7: "Each grid cell gets a third mark, keep"
pub record Grid : Type 0 where
  pub vedge : List ℕ
  pub hedge : List ℕ
  pub sqw : List ℕ
  pub sqh : List ℕ
  pub qindex : List ℕ
  pub tiles : List ℕ
  pub keep : List ℕ

abbrev pub keeping : List ℕ → List ℕ → List ℕ → List ℕ → List ℕ → List ℕ → List ℕ → Grid
keeping v h w t q ts ks = record { vedge = v; hedge = h; sqw = w; sqh = t; qindex = q; tiles = ts; keep = ks }

-- no keep marks
abbrev pub tiled : List ℕ → List ℕ → List ℕ → List ℕ → List ℕ → List ℕ → Grid
tiled v h w t q ts = keeping v h w t q ts []

-- one tile
abbrev pub grid : List ℕ → List ℕ → List ℕ → List ℕ → List ℕ → Grid
grid v h w t q = tiled v h w t q []

-- ---- the edge of a cell; direction 0 is its left side, 1 its upper side

-- "a cell's is row·mi_cols + column"
unfoldable pub cell_of : Plane → ℕ → ℕ → ℕ
cell_of s r c = r * s.cols + c

-- the cell before the edge
unfoldable pub cell_before : Plane → ℕ → ℕ → ℕ → ℕ
cell_before s dir r c = pick (eqb dir 0) (cell_of s r c - 1) (cell_of s r c - s.cols)

-- the marks and size indices of a direction: "width's at vertical edges, height's at horizontal"
unfoldable pub marks_of : Grid → ℕ → List ℕ
marks_of g dir = pick (eqb dir 0) g.vedge g.hedge

unfoldable pub indices_of : Grid → ℕ → List ℕ
indices_of g dir = pick (eqb dir 0) g.sqw g.sqh

-- "m is at most 2 in luma when x+16 > width, at most 1 in chroma when x+8 > width; the same with y and height."
unfoldable pub capped_of : Bool → ℕ → ℕ → ℕ → ℕ
capped_of chroma place size m =
    pick chroma (pick (ltb size (place + 8)) (min m 1) m) (pick (ltb size (place + 16)) (min m 2) m)

-- "m is the smaller size index of the two cells"
unfoldable pub index_at : Plane → Grid → ℕ → ℕ → ℕ → ℕ
index_at s g dir r c =
    capped_of s.chroma (pick (eqb dir 0) (c * 4) (r * 4)) (pick (eqb dir 0) s.width s.height)
    (min (get_or (indices_of g dir) (cell_of s r c) 0) (get_or (indices_of g dir) (cell_before s dir r c) 0))

-- whether a column is among the first n of a list of tile starts
unfoldable pub starts_tile : List ℕ → ℕ → ℕ → Bool
starts_tile ts zero c = false
starts_tile ts (suc n) c = either (starts_tile ts n c) (eqb (get_or ts n 0) c)

-- "Horizontal edges in rows divisible by the superblock height are shortened; vertical edges never are.";
-- ticket 5: "vertical edges in them use the shortened pairs"
unfoldable pub shortened_at : Plane → Grid → ℕ → ℕ → ℕ → Bool
shortened_at s g dir r c = pick (eqb dir 0) (starts_tile g.tiles (length g.tiles) c) (eqb (r % s.sbh) 0)

unfoldable pub edge_at : Plane → List ℕ → Grid → ℕ → ℕ → ℕ → Edge
edge_at s steps g dir r c = record {
  x = c * 4;
  y = r * 4;
  dir = dir;
  pair = pair_of (index_at s g dir r c) s.chroma (shortened_at s g dir r c);
  q = q_threshold s.depth steps (get_or g.qindex (cell_of s r c) 0) (get_or g.qindex (cell_before s dir r c) 0) s.deltaq;
  side = side_threshold s.depth (get_or g.qindex (cell_of s r c) 0) (get_or g.qindex (cell_before s dir r c) 0) s.deltaside;
}

-- "Column 0 and row 0 have none."
unfoldable pub is_edge : Plane → Grid → ℕ → ℕ → ℕ → Bool
is_edge s g dir r c = both (ltb 0 (pick (eqb dir 0) c r)) (eqb (get_or (marks_of g dir) (cell_of s r c) 0) 1)

unfoldable pub visit_of : Plane → List ℕ → Grid → ℕ → ℕ → ℕ → List Edge
visit_of s steps g dir r c = pick (is_edge s g dir r c) (edge_at s steps g dir r c ∷ []) []

-- ---- the order

-- where a superblock column starts, how many columns it has, and how many there are
unfoldable pub start_of : Plane → ℕ → ℕ
start_of s sb = sb * s.sbw

unfoldable pub count_of : Plane → ℕ → ℕ
count_of s sb = min s.sbw (s.cols - start_of s sb)

unfoldable pub sb_cols : Plane → ℕ
sb_cols s = (s.cols + s.sbw - 1) / s.sbw

-- one direction's edges of a part of the cells, `rows` rows from `row` and `cols` columns from `col`:
-- "vertical edges, rows outer", "horizontal edges, columns outer"
unfoldable pub sweep_of : Plane → List ℕ → Grid → ℕ → ℕ → ℕ → ℕ → ℕ → List Edge
sweep_of s steps g dir row rows col cols =
    pick (eqb dir 0)
    (each rows (λ i. each cols (λ j. visit_of s steps g dir (row + i) (col + j))))
    (each cols (λ j. each rows (λ i. visit_of s steps g dir (row + i) (col + j))))

-- one direction's edges of a superblock column
unfoldable pub column_of : Plane → List ℕ → Grid → ℕ → ℕ → List Edge
column_of s steps g dir sb = sweep_of s steps g dir 0 s.rows (start_of s sb) (count_of s sb)

-- "For each superblock column: its vertical edges, then the previous column's horizontal edges"
unfoldable pub turn_of : Plane → List ℕ → Grid → ℕ → List Edge
turn_of s steps g sb = column_of s steps g 0 sb ++ pick (eqb sb 0) [] (column_of s steps g 1 (sb - 1))

-- "at the end the last column's"
unfoldable pub edges_of : Plane → List ℕ → Grid → List Edge
edges_of s steps g = each (sb_cols s) (λ sb. turn_of s steps g sb) ++ column_of s steps g 1 (sb_cols s - 1)

-- a plane's kept samples, by its keep marks
abbrev pub kept_by : Plane → Grid → ℕ → Bool
kept_by s g = kept_in s.cols s.stride g.keep

unfoldable pub run_plane : Plane → List ℕ → Grid → List ℕ → List ℕ
run_plane s steps g l = run_edges (top_of s.depth) s.stride (kept_by s g) (edges_of s steps g) l

-- document 02, ticket 4: "segment, plane and frame pass sums on", of a plane that runs
unfoldable pub run_stored : Plane → List ℕ → Grid → List ℕ → ℕ
run_stored s steps g l = stored_by (top_of s.depth) s.stride (kept_by s g) (edges_of s steps g) l

unfoldable pub run_changed : Plane → List ℕ → Grid → List ℕ → ℕ
run_changed s steps g l = changed_by (top_of s.depth) s.stride (kept_by s g) (edges_of s steps g) l

-- ---- the checks

-- "mi_cols and mi_rows 1..1024. Stride 4·mi_cols..8192. width 1..4·mi_cols and height 1..4·mi_rows. Superblock width and height in cells: 8 or 16 each."
-- Ticket 6 needs these widths: from two cells on the order of superblocks leaves the plane of all vertical edges and then all horizontal ones; "with a width of one cell it would be false"
unfoldable pub plane_sizes_ok : Plane → Bool
plane_sizes_ok s =
    all
    (in_range 1 1024 s.cols
    ∷ in_range 1 1024 s.rows
    ∷ in_range (4 * s.cols) 8192 s.stride
    ∷ in_range 1 (4 * s.cols) s.width
    ∷ in_range 1 (4 * s.rows) s.height
    ∷ either (eqb s.sbw 8) (eqb s.sbw 16)
    ∷ either (eqb s.sbh 8) (eqb s.sbh 16)
    ∷ [])

-- "a plane's lent length at least stride·4·mi_rows"; "Each list has at least mi_cols·mi_rows entries."
unfoldable pub plane_lengths_ok : Plane → Grid → ℕ → Bool
plane_lengths_ok s g n =
    all
    (leb (4 * s.rows * s.stride) n
    ∷ leb (s.rows * s.cols) (length g.vedge)
    ∷ leb (s.rows * s.cols) (length g.hedge)
    ∷ leb (s.rows * s.cols) (length g.sqw)
    ∷ leb (s.rows * s.cols) (length g.sqh)
    ∷ leb (s.rows * s.cols) (length g.qindex)
    ∷ leb (s.rows * s.cols) (length g.keep)
    ∷ [])

-- ticket 5: "strictly rising, each above 0 and below mi_cols"
unfoldable pub start_good : ℕ → List ℕ → ℕ → Bool
start_good cols ts k = both (ltb (pick (eqb k 0) 0 (get_or ts (k - 1) 0)) (get_or ts k 0)) (ltb (get_or ts k 0) cols)

unfoldable pub bad_start : ℕ → List ℕ → Option ℕ
bad_start cols ts = first (length ts) (λ k. found_unless (start_good cols ts k) k)

-- "Refusal: 5 also for a bad list."
unfoldable pub tiles_check : ℕ → List ℕ → Answer
tiles_check cols ts = found (bad_start cols ts) (λ k. Setting)

-- "Grid cells: two marks (0 or 1) and two size indices 0..6."; ticket 7: "Refusal: 6 also for a keep mark other than 0 or 1"
unfoldable pub cell_good : Grid → ℕ → Bool
cell_good g k =
    all
    (leb (get_or g.vedge k 0) 1
    ∷ leb (get_or g.hedge k 0) 1
    ∷ leb (get_or g.sqw k 0) 6
    ∷ leb (get_or g.sqh k 0) 6
    ∷ leb (get_or g.keep k 0) 1
    ∷ [])

-- "6: first cell, row by row"
unfoldable pub bad_cell : Plane → Grid → Option ℕ
bad_cell s g = first (s.rows * s.cols) (λ k. found_unless (cell_good g k) k)

-- the same of keep marks alone, where an entry has no others: the first of n cells
unfoldable pub bad_keep : ℕ → List ℕ → Option ℕ
bad_keep n keep = first n (λ k. over_top 1 keep k)

-- "7: an edge lacks room": its pair alone decides, whatever its thresholds
unfoldable pub edge_room : Plane → Grid → ℕ → ℕ → ℕ → Bool
edge_room s g dir r c =
    has_room (4 * s.cols) (4 * s.rows)
    (record { x = c * 4; y = r * 4; dir = dir; pair = pair_of (index_at s g dir r c) s.chroma (shortened_at s g dir r c); q = 0; side = 0 })

unfoldable pub lacks_room : Plane → Grid → ℕ → ℕ → ℕ → Option ℕ
lacks_room s g dir r c = found_unless (pick (is_edge s g dir r c) (edge_room s g dir r c) true) (cell_of s r c)

unfoldable pub lacks_row : Plane → Grid → ℕ → ℕ → Option ℕ
lacks_row s g dir r = first s.cols (λ c. lacks_room s g dir r c)

unfoldable pub lacks_dir : Plane → Grid → ℕ → Option ℕ
lacks_dir s g dir = first s.rows (λ r. lacks_row s g dir r)

-- "first cell, vertical edges row by row, then horizontal"
unfoldable pub no_room : Plane → Grid → Option ℕ
no_room s g = sooner (lacks_dir s g 0) (lacks_dir s g 1)

-- "Refusal 8 looks at 4·mi_cols by 4·mi_rows in a plane"
unfoldable pub over_plane : Plane → List ℕ → Option ℕ
over_plane s l = over_box (top_of s.depth) l 0 s.stride (4 * s.cols) (4 * s.rows)

-- order 1, 2, 3, 4, 5, 6, 7, 8
unfoldable pub plane_check : Plane → List ℕ → Grid → List ℕ → Answer
plane_check s steps g l =
    or_else (unless (depth_ok s.depth) Depth)
    (or_else (unless (plane_sizes_ok s) Size)
    (or_else (unless (plane_lengths_ok s g (length l)) Length)
    (or_else (steps_check steps)
    (or_else (deltas_check s.deltaq s.deltaside)
    (or_else (tiles_check s.cols g.tiles)
    (or_else (found (bad_cell s g) Cell)
    (or_else (found (no_room s g) Room)
    (found (over_plane s l) Sample))))))))

-- the plane afterwards
unfoldable pub plane_after : Plane → List ℕ → Grid → List ℕ → List ℕ
plane_after s steps g l = settle (plane_check s steps g l) l (run_plane s steps g l)

-- ticket 4: stored and changed samples; "A refusal reports zero for both."
unfoldable pub plane_stored : Plane → List ℕ → Grid → List ℕ → ℕ
plane_stored s steps g l = settle (plane_check s steps g l) 0 (run_stored s steps g l)

unfoldable pub plane_changed : Plane → List ℕ → Grid → List ℕ → ℕ
plane_changed s steps g l = settle (plane_check s steps g l) 0 (run_changed s steps g l)
