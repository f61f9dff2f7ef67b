-- What building a grid and checking a plane of a frame ask of its settings and lists.
-- Assumes nothing.
use Rattle.std.specs.Prelude.{◌≡◌, Bool, true, List, ℕ, ◌*◌, ◌≤◌}
use Rattle.rules.specs.declared.settings.Frame.{Frame}
use Rattle.rules.specs.Numbers.{depth_ok}
use Rattle.tiles.specs.Fit.{Cut, AllGood}
use Rattle.qindex.specs.Fit.{QFit}
use Rattle.grid.specs.Fit.{GridFits}
use Rattle.cell_edges.specs.Cells.{Sizes, Ready}
use Rattle.frame_checks.specs.Settings.{Sized, plane_of, tu_of, q_of}

-- a plane of size samples
pub record Sampled (f : Frame) (chroma : Bool) (size : ℕ) : Type 0 where
  pub sized : Sized f
  pub depth : depth_ok (plane_of f chroma).depth ≡ true
  pub sizes_ok : Sizes (plane_of f chroma)
  pub plane_long : 4 * (plane_of f chroma).rows * (plane_of f chroma).stride ≤ size

-- the marks and size indices of a plane's cells
pub record Marked (f : Frame) (chroma : Bool) (v h w t : List ℕ) : Type 0 where
  pub sized : Sized f
  pub vert : Ready (plane_of f chroma) v w
  pub horz : Ready (plane_of f chroma) h t

-- what building a grid asks of leaves, of count entries of superblocks, and of five lists by their lengths
pub record Buildable (f : Frame) (chroma : Bool) (leaves skips : List ℕ) (count v h w t q : ℕ) : Type 0 where
  pub sized : Sized f
  pub fit : GridFits (tu_of f chroma) v h w t
  pub cut : Cut (tu_of f chroma)
  pub leaves_good : AllGood leaves
  pub skips_good : AllGood skips
  pub q_fit : QFit (q_of f chroma) count q
