-- What is known of a plane at each stage of its checks, and the entry's statement.
-- Assumes nothing.
use Rattle.std.specs.Prelude.{◌≡◌, true, List, length, ℕ, ◌+◌, ◌*◌, ◌≤◌}
use Rattle.rules.specs.declared.settings.Plane.{Plane}
use Rattle.rules.specs.declared.refusals.Refusal.TheVariants.{Cell, Room}
use Rattle.rules.specs.Refusals.{Answer}
use Rattle.std.specs.declared.result.Result.TheVariants.{Ok}
use Rattle.std.specs.declared.result.Result.{Result}
use Rattle.rules.specs.declared.counts.Counts.{Counts}
use Rattle.rules.specs.declared.refusals.Refusal.{Refusal}
use Rattle.rules.specs.Refusals.{answered, changed_in, stored_in}
use Rattle.std.specs.declared.option.Option.TheVariants.{None}
use Rattle.rules.specs.Numbers.{depth_ok, delta_ok}
use Rattle.rules.specs.Refusals.{or_else, found}
use Rattle.rules.specs.Thresholds.{steps_check}
use Rattle.rules.specs.Plane.{Grid, tiles_check, bad_cell, no_room, plane_lengths_ok, edges_of, run_plane, run_stored, run_changed, plane_check, plane_after, plane_stored, plane_changed}
use Rattle.cell_edges.specs.Cells.{Sizes}
use Rattle.plane_checks.specs.Fit.{CellsLong}
use Rattle.records.specs.Noted.{noted}
use Rattle.rules.specs.declared.counts.Visited.{Visited}

-- depth, sizes and lengths are good
pub record Sized (s : Plane) (n v h w t k : ℕ) : Type 0 where
  pub depth : depth_ok s.depth ≡ true
  pub sizes_ok : Sizes s
  pub plane_long : 4 * s.rows * s.stride ≤ n
  pub lists_long : CellsLong (s.rows * s.cols) v h w t k

-- checks 6 and 7
unfoldable pub grid_check : Plane → Grid → Answer
grid_check s g = or_else (found (bad_cell s g) Cell) (found (no_room s g) Room)

-- checks 1 to 7 are good, for a plane of so many samples
pub record Checked (s : Plane) (steps : List ℕ) (g : Grid) (size : ℕ) : Type 0 where
  pub depth : depth_ok s.depth ≡ true
  pub sizes_ok : Sizes s
  pub lengths : plane_lengths_ok s g size ≡ true
  pub steps_ok : steps_check steps ≡ Ok tt
  pub deltaq_ok : delta_ok s.deltaq ≡ true
  pub deltaside_ok : delta_ok s.deltaside ≡ true
  pub tiles_ok : tiles_check s.cols g.tiles ≡ Ok tt
  pub cells : bad_cell s g ≡ None
  pub room : no_room s g ≡ None

-- what a checked plane's run tells and leaves of the plane l: a and the plane m
pub record Filtered (s : Plane) (steps : List ℕ) (g : Grid) (l : List ℕ) (a : Visited) (m : List ℕ) : Type 0 where
  pub plane : m ≡ run_plane s steps g l
  pub visited : a.bytes ≡ 5 + 10 * length (edges_of s steps g)
  pub stored : a.stored ≡ run_stored s steps g l
  pub changed : a.changed ≡ run_changed s steps g l

-- the same of a run that notes its edges, in the record's buffer b: the buffer c
pub record Noted (s : Plane) (steps : List ℕ) (g : Grid) (l b : List ℕ) (a : Visited) (m c : List ℕ) : Type 0 where
  pub plane : m ≡ run_plane s steps g l
  pub buffer : c ≡ noted 5 (edges_of s steps g) b
  pub visited : a.bytes ≡ 5 + 10 * length (edges_of s steps g)
  pub stored : a.stored ≡ run_stored s steps g l
  pub changed : a.changed ≡ run_changed s steps g l

-- all that the entry states: its answer a with the counts, and the plane afterwards m, of a plane l
pub record Stated (s : Plane) (steps : List ℕ) (g : Grid) (l : List ℕ) (a : Result Counts Refusal) (m : List ℕ) : Type 0 where
  pub answer : answered a ≡ plane_check s steps g l
  pub plane : m ≡ plane_after s steps g l
  pub stored : stored_in a ≡ plane_stored s steps g l
  pub changed : changed_in a ≡ plane_changed s steps g l
