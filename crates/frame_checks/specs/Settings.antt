-- The settings of a frame's planes and grids by the kind of plane, and the sizes and keep marks that a frame's checks accept.
-- Assumes nothing.
use Rattle.std.specs.Prelude.{Bool, true, false, ℕ, ◌*◌, ◌≤◌}
use Rattle.rules.specs.declared.settings.Frame.{Frame}
use Rattle.rules.specs.declared.settings.Plane.{Plane}
use Rattle.rules.specs.declared.settings.TuGrid.{TuGrid}
use Rattle.rules.specs.declared.settings.QindexGrid.{QindexGrid}
use Rattle.rules.specs.Frame.{luma_plane, chroma_plane, luma_tu, chroma_tu, luma_q, chroma_q, chroma_on}
use Rattle.cell_edges.specs.Cells.{Sizes}

-- luma's or chroma's
abbrev pub plane_of : Frame → Bool → Plane
plane_of f false = luma_plane f
plane_of f true = chroma_plane f

abbrev pub tu_of : Frame → Bool → TuGrid
tu_of f false = luma_tu f
tu_of f true = chroma_tu f

abbrev pub q_of : Frame → Bool → QindexGrid
q_of f false = luma_q f
q_of f true = chroma_q f

-- luma is always filtered
abbrev pub kind_on : Frame → Bool → Bool
kind_on f false = true
kind_on f true = chroma_on f

-- a picture's size and subsampling in range, so that no sum of them wraps
pub record Sized (f : Frame) : Type 0 where
  pub some_width : 1 ≤ f.width
  pub width_most : f.width ≤ 4096
  pub some_height : 1 ≤ f.height
  pub height_most : f.height ≤ 4096
  pub ssx_most : f.ssx ≤ 1
  pub ssy_most : f.ssy ≤ 1

-- n keep marks are enough for the cells of a plane
pub record KeepLong (f : Frame) (chroma : Bool) (n : ℕ) : Type 0 where
  pub sized : Sized f
  pub sizes_ok : Sizes (plane_of f chroma)
  pub long : (plane_of f chroma).rows * (plane_of f chroma).cols ≤ n
