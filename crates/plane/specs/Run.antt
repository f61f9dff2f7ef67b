-- What the functions of a plane's run ask of their lists, and what each makes of the plane.
-- Assumes nothing.
use Rattle.std.specs.Prelude.{◌≡◌, Bool, true, List, [], ℕ, ◌+◌, ◌*◌, ◌-◌, ◌/◌, ◌%◌, ◌≤◌, ◌<◌, eqb, ltb, length, get_or}
use Rattle.laws.specs.Choose.{pick}
use Rattle.laws.specs.Loops.{each}
use Rattle.rules.specs.declared.edge.Edge.{Edge}
use Rattle.rules.specs.declared.settings.Plane.{Plane}
use Rattle.rules.specs.Numbers.{depth_ok, top_of}
use Rattle.rules.specs.Lengths.{pair_of}
use Rattle.std.specs.declared.result.Result.TheVariants.{Ok}
use Rattle.rules.specs.Thresholds.{steps_check}
use Rattle.thresholds.specs.ByQindex.{ByQindex}
use Rattle.rules.specs.Segment.{kept_in, run_edges}
use Rattle.rules.specs.Counts.{stored_by, changed_by}
use Rattle.rules.specs.Plane.{Grid, index_at, starts_tile, edge_at, is_edge, visit_of, sweep_of, start_of, count_of}
use Rattle.cell_edges.specs.Cells.{Ready, Cell, one_way, sized, marked, short_by}
use Rattle.plane_checks.specs.Fit.{room_of}
use Rattle.records.specs.Noted.{noted}
use Rattle.plane.specs.declared.part.Part.{Part}
use Rattle.rules.specs.declared.counts.Visited.{Visited}

-- ---- a table that is made once a plane

-- its k-th number: both thresholds of the qindex k, and from 1416 on a 1 for each column that starts a tile
unfoldable pub table_at : List ℕ → List ℕ → ℕ → ℕ
table_at levels ts k = pick (ltb k 1416) (get_or levels k 0) (pick (starts_tile ts (length ts) (k - 1416)) 1 0)

pub record IsTable (levels ts t : List ℕ) : Type 0 where
  pub at : (k : ℕ) → k < 2440 → get_or t k 0 ≡ table_at levels ts k

-- whether a column starts a tile, by the table
abbrev pub start_by : List ℕ → ℕ → Bool
start_by t c = eqb (get_or t (1416 + c) 0) 1

-- a table for a plane's depth and deltas, an accepted step table, and a list of tile starts
pub record Table (s : Plane) (steps ts t : List ℕ) : Type 0 where
  pub entries : ByQindex s.depth steps s.deltaq s.deltaside t
  pub accepted : steps_check steps ≡ Ok tt
  pub starts : (c : ℕ) → c < s.cols → start_by t c ≡ starts_tile ts (length ts) c

-- no threshold of it is too large
pub record Levels (t : List ℕ) : Type 0 where
  pub q_most : (k : ℕ) → k ≤ 1415 → get_or t k 0 / 65536 ≤ 2048
  pub side_most : (k : ℕ) → k ≤ 1415 → get_or t k 0 % 65536 ≤ 839

-- ---- an edge, and a run

-- the edge of a cell, by any steps and tile starts that the table was made of
pub record IsEdgeAt (s : Plane) (t sizes qindex : List ℕ) (dir r c : ℕ) (e : Edge) : Type 0 where
  pub is : (steps ts : List ℕ) → Table s steps ts t → e ≡ edge_at s steps (one_way [] sizes qindex ts) dir r c
  pub x_is : e.x ≡ c * 4
  pub y_is : e.y ≡ r * 4
  pub dir_is : e.dir ≡ dir
  pub pair_is : e.pair ≡ pair_of (index_at s (sized sizes) dir r c) s.chroma (short_by s (start_by t c) dir r)
  pub q_most : e.q ≤ 2048
  pub side_most : e.side ≤ 839

-- where a run stands: the plane, the record's buffer, and what it has done so far
pub record State : Type 0 where
  pub plane : List ℕ
  pub buffer : List ℕ
  pub done : Visited

abbrev pub state : List ℕ → List ℕ → Visited → State
state p b d = record { plane = p; buffer = b; done = d }

-- before the first edge: a record's header is 5 bytes
abbrev pub none : Visited
none = record { bytes = 5; stored = 0; changed = 0 }

-- none of its numbers is above m
pub record Most (m : ℕ) (d : Visited) : Type 0 where
  pub bytes_most : d.bytes ≤ m
  pub stored_most : d.stored ≤ m
  pub changed_most : d.changed ≤ m

-- from d to e at most n edges, of which each adds ten bytes and at most 64 samples
pub record Few (n : ℕ) (d e : Visited) : Type 0 where
  pub bytes_few : e.bytes ≤ d.bytes + 10 * n
  pub stored_few : e.stored ≤ d.stored + 64 * n
  pub changed_few : e.changed ≤ d.changed + 64 * n

-- the samples that a list of keep marks keeps
abbrev pub held : Plane → List ℕ → ℕ → Bool
held s keep = kept_in s.cols s.stride keep

-- a run of a list of edges, by any steps and tile starts that the table was made of, from x to y: each edge is noted, filtered and counted
pub record Ran (s : Plane) (t keep : List ℕ) (edges : List ℕ → List ℕ → List Edge) (x y : State) : Type 0 where
  pub is : (steps ts : List ℕ) → Table s steps ts t → y.plane ≡ run_edges (top_of s.depth) s.stride (held s keep) (edges steps ts) x.plane
  pub notes : (steps ts : List ℕ) → Table s steps ts t → y.buffer ≡ noted x.done.bytes (edges steps ts) x.buffer
  pub visited : (steps ts : List ℕ) → y.done.bytes ≡ x.done.bytes + 10 * length (edges steps ts)
  pub stored : (steps ts : List ℕ) → Table s steps ts t → y.done.stored ≡ x.done.stored + stored_by (top_of s.depth) s.stride (held s keep) (edges steps ts) x.plane
  pub changed : (steps ts : List ℕ) → Table s steps ts t → y.done.changed ≡ x.done.changed + changed_by (top_of s.depth) s.stride (held s keep) (edges steps ts) x.plane

-- the same of at most n edges
pub record RanFew (s : Plane) (t keep : List ℕ) (n : ℕ) (edges : List ℕ → List ℕ → List Edge) (x y : State) : Type 0 where
  pub ran : Ran s t keep edges x y
  pub few : Few n x.done y.done

-- ---- parts of the cells

pub record PartOf (s : Plane) (p : Part) : Type 0 where
  pub rows_in : p.row + p.rows ≤ s.rows
  pub cols_in : p.col + p.cols ≤ s.cols

-- the j-th cell of the k-th line of a part is there, in direction 0 or 1
pub record InPart (dir : ℕ) (p : Part) (k j : ℕ) : Type 0 where
  pub two : dir ≤ 1
  pub line_in : k < pick (eqb dir 0) p.rows p.cols
  pub cell_in : j < pick (eqb dir 0) p.cols p.rows

unfoldable pub superblock_of : Plane → ℕ → Part
superblock_of s sb = record { row = 0; rows = s.rows; col = start_of s sb; cols = count_of s sb }

-- the j-th cell of the k-th line of a part: a row in direction 0, a column in direction 1
abbrev pub in_line : Plane → List ℕ → Grid → ℕ → Part → ℕ → ℕ → List Edge
in_line s steps g dir p k j = visit_of s steps g dir (p.row + pick (eqb dir 0) k j) (p.col + pick (eqb dir 0) j k)

-- one direction's edges of a part
abbrev pub in_sweep : Plane → List ℕ → Grid → ℕ → Part → List Edge
in_sweep s steps g dir p = sweep_of s steps g dir p.row p.rows p.col p.cols

-- the k-th line
unfoldable pub line_of : Plane → List ℕ → Grid → ℕ → Part → ℕ → List Edge
line_of s steps g dir p k = each (pick (eqb dir 0) p.cols p.rows) (λ j. in_line s steps g dir p k j)

-- a direction's own lists and the table, for a plane of so many samples: every edge has room
pub record Field (s : Plane) (marks sizes qindex t : List ℕ) (size dir : ℕ) : Type 0 where
  pub ready : Ready s marks sizes
  pub depth : depth_ok s.depth ≡ true
  pub qindex_long : s.rows * s.cols ≤ length qindex
  pub plane_long : 4 * s.rows * s.stride ≤ size
  pub levels : Levels t
  pub room : (r c : ℕ) → Cell s r c → is_edge s (marked marks) dir r c ≡ true → room_of s sizes (short_by s (start_by t c) dir r) dir r c ≡ true
