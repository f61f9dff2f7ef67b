-- What the functions over a plane's cells ask of its settings and lists, in inequalities, and the grids of which they read one direction.
-- Assumes nothing.
use Rattle.std.specs.Prelude.{List, [], Bool, ℕ, ◌*◌, ◌%◌, ◌≤◌, ◌<◌, eqb, length, get_or}
use Rattle.laws.specs.Choose.{pick}
use Rattle.rules.specs.declared.settings.Plane.{Plane}
use Rattle.rules.specs.Plane.{Grid, tiled}

-- sizes that a plane's check accepts
pub record Sizes (s : Plane) : Type 0 where
  pub some_cols : 1 ≤ s.cols
  pub cols_most : s.cols ≤ 1024
  pub some_rows : 1 ≤ s.rows
  pub rows_most : s.rows ≤ 1024
  pub wide : 4 * s.cols ≤ s.stride
  pub stride_most : s.stride ≤ 8192
  pub some_sbw : 8 ≤ s.sbw
  pub sbw_most : s.sbw ≤ 16
  pub some_sbh : 8 ≤ s.sbh
  pub sbh_most : s.sbh ≤ 16

-- the first count numbers are at most n
pub record EachWithin (n count : ℕ) (l : List ℕ) : Type 0 where
  pub each_one : (k : ℕ) → k < count → get_or l k 0 ≤ n

-- a size index of at most 6 for each cell
pub record Indices (s : Plane) (sizes : List ℕ) : Type 0 where
  pub long : s.rows * s.cols ≤ length sizes
  pub small : EachWithin 6 (s.rows * s.cols) sizes

-- a direction's own lists, in a plane of accepted sizes
pub record Ready (s : Plane) (marks sizes : List ℕ) : Type 0 where
  pub sizes_ok : Sizes s
  pub marks_long : s.rows * s.cols ≤ length marks
  pub indices : Indices s sizes

-- a cell of the plane
pub record Cell (s : Plane) (r c : ℕ) : Type 0 where
  pub in_rows : r < s.rows
  pub in_cols : c < s.cols

-- a cell that has a cell before it in a direction
pub record Inner (s : Plane) (dir r c : ℕ) : Type 0 where
  pub cell : Cell s r c
  pub later : 0 < pick (eqb dir 0) c r

-- ---- grids with the same lists in both directions: of marks, size indices, qindex and tile starts; of one of these alone

abbrev pub one_way : List ℕ → List ℕ → List ℕ → List ℕ → Grid
one_way marks sizes qindex tiles = tiled marks marks sizes sizes qindex tiles

abbrev pub sized : List ℕ → Grid
sized sizes = one_way [] sizes [] []

abbrev pub marked : List ℕ → Grid
marked marks = one_way marks [] [] []

abbrev pub starting : List ℕ → Grid
starting tiles = one_way [] [] [] tiles

-- ---- an edge by whether it is shortened

-- whether it is, by whether its column starts a tile
unfoldable pub short_by : Plane → Bool → ℕ → ℕ → Bool
short_by s start dir r = pick (eqb dir 0) start (eqb (r % s.sbh) 0)
