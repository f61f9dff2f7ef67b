-- What running the planes of a frame leaves of them and tells of samples stored and changed.
-- Assumes nothing.
use Rattle.std.specs.Prelude.{◌≡◌, Bool, List, ℕ, ◌≤◌}
use Rattle.laws.specs.Choose.{pick}
use Rattle.rules.specs.declared.settings.Frame.{Frame}
use Rattle.rules.specs.declared.counts.Counts.{Counts}
use Rattle.std.specs.declared.result.Result.TheVariants.{Ok}
use Rattle.rules.specs.Plane.{Grid, plane_check, run_plane, run_stored, run_changed}
use Rattle.rules.specs.Frame.{Planes, Grids, run_frame, run_frame_stored, run_frame_changed}
use Rattle.frame_checks.specs.Settings.{Sized, kind_on, plane_of}

-- a plane l that can be run by its grid, in any order that gives document 01's plane
pub record Runnable (f : Frame) (chroma : Bool) (steps : List ℕ) (g : Grid) (l : List ℕ) : Type 0 where
  pub sized : Sized f
  pub accepted : plane_check (plane_of f chroma) steps g l ≡ Ok tt

-- of one plane l, where it is filtered: the plane m and its counts, which are small enough to be added
pub record PlaneRun (f : Frame) (chroma : Bool) (steps : List ℕ) (g : Grid) (l : List ℕ) (a : Counts) (m : List ℕ) : Type 0 where
  pub plane : m ≡ pick (kind_on f chroma) (run_plane (plane_of f chroma) steps g l) l
  pub stored : a.stored ≡ pick (kind_on f chroma) (run_stored (plane_of f chroma) steps g l) 0
  pub changed : a.changed ≡ pick (kind_on f chroma) (run_changed (plane_of f chroma) steps g l) 0
  pub stored_most : a.stored ≤ 134217728
  pub changed_most : a.changed ≤ 134217728

-- of a frame's planes p: the planes q and the sums
pub record FrameRun (f : Frame) (steps : List ℕ) (g : Grids) (p : Planes) (a : Counts) (q : Planes) : Type 0 where
  pub planes : q ≡ run_frame f steps g p
  pub stored : a.stored ≡ run_frame_stored f steps g p
  pub changed : a.changed ≡ run_frame_changed f steps g p
