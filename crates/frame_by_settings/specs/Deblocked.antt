-- A frame deblocked over grids that are all zero but for the tile starts and the keep marks, and where an edge of it lacks room.
-- Assumes nothing.
use Rattle.std.specs.Prelude.{◌≡◌, false, List, [], ℕ, ◌/◌, length, replicate}
use Rattle.rules.specs.declared.settings.Frame.{Frame}
use Rattle.std.specs.declared.result.Result.{Result}
use Rattle.rules.specs.declared.counts.Counts.{Counts}
use Rattle.rules.specs.declared.refusals.Refusal.{Refusal}
use Rattle.rules.specs.Refusals.{answered, changed_in, stored_in}
use Rattle.rules.specs.Plane.{Grid, keeping, no_room}
use Rattle.rules.specs.Frame.{Planes, Given, Lent, Done, grids, lent, luma_plane, luma_tu, luma_q, built_grid, frame_of, frame_stored, frame_changed}
use Rattle.frame_planes.specs.Fit.{Sampled, Buildable}
use Rattle.by_settings.specs.declared.places.Place.{Place}
use Rattle.by_settings.specs.Places.{in_luma, in_chroma, place_in, if_found}

-- how many cells the largest plane has
abbrev pub most_cells : ℕ
most_cells = 1048576

-- one entry for each
unfoldable pub zeros : List ℕ
zeros = replicate most_cells 0

-- luma's tile starts, and chroma's
pub record Starts : Type 0 where
  pub luma : List ℕ
  pub chroma : List ℕ

abbrev pub starts : List ℕ → List ℕ → Starts
starts luma chroma = record { luma = luma; chroma = chroma }

-- luma's keep marks, and chroma's
pub record Keeps : Type 0 where
  pub luma : List ℕ
  pub chroma : List ℕ

abbrev pub keeps : List ℕ → List ℕ → Keeps
keeps luma chroma = record { luma = luma; chroma = chroma }

-- by the tile starts and the keep marks of its plane
abbrev pub zero_grid : List ℕ → List ℕ → Grid
zero_grid ts ks = keeping zeros zeros zeros zeros zeros ts ks

abbrev pub over_zeros : Starts → Keeps → Planes → Lent
over_zeros t k p = lent p (grids (zero_grid t.luma k.luma) (zero_grid t.chroma k.chroma))

-- the frame's answer and lists by rules' frame_of
unfoldable pub deblocked : Frame → Given → Starts → Keeps → Planes → Done
deblocked f n t k p = frame_of f n (over_zeros t k p)

pub record Deblocked (f : Frame) (n : Given) (t : Starts) (k : Keeps) (lent : Planes) (a : Result Counts Refusal) (left : Planes) : Type 0 where
  pub answer : answered a ≡ (deblocked f n t k lent).answer
  pub samples : left ≡ (deblocked f n t k lent).lists.planes
  pub stored : stored_in a ≡ frame_stored f n (over_zeros t k lent)
  pub changed : changed_in a ≡ frame_changed f n (over_zeros t k lent)

-- luma's grid over zeros, from leaves, skip leaves, superblocks and luma's tile starts; room does not depend on keep marks
unfoldable pub luma_grid : Frame → List ℕ → List ℕ → List ℕ → List ℕ → Grid
luma_grid f leaves skips sbq ts = built_grid (luma_tu f) (luma_q f) leaves skips sbq (zero_grid ts [])

-- what building it and asking it for room want
pub record LumaFit (f : Frame) (leaves skips : List ℕ) (count : ℕ) : Type 0 where
  pub size : ℕ
  pub sampled : Sampled f false size
  pub built : Buildable f false leaves skips count (length zeros) (length zeros) (length zeros) (length zeros) (length zeros)

-- cell k of luma where luma lacks room, else of chroma
unfoldable pub room_place : Frame → List ℕ → List ℕ → List ℕ → List ℕ → ℕ → Place
room_place f leaves skips sbq ts k =
    if_found (no_room (luma_plane f) (luma_grid f leaves skips sbq ts)) (place_in in_luma k (f.lumastride / 4)) (place_in in_chroma k (f.chromastride / 4))
