-- What checking and filtering a plane of a frame by its built grid ask, and how long a frame's lists are.
-- Assumes nothing.
use Rattle.std.specs.Prelude.{◌≡◌, Bool, true, List, ℕ, length}
use Rattle.rules.specs.declared.settings.Frame.{Frame}
use Rattle.rules.specs.declared.lent.GridLengths.{GridLengths}
use Rattle.rules.specs.declared.lent.FrameLengths.{FrameLengths}
use Rattle.std.specs.declared.result.Result.TheVariants.{Ok}
use Rattle.std.specs.declared.option.Option.TheVariants.{None}
use Rattle.rules.specs.Numbers.{delta_ok}
use Rattle.rules.specs.Thresholds.{steps_check}
use Rattle.rules.specs.Plane.{Grid, tiles_check, plane_lengths_ok, bad_cell}
use Rattle.rules.specs.Frame.{Planes, Given}
use Rattle.frame_checks.specs.Settings.{plane_of}
use Rattle.frame_planes.specs.Fit.{Sampled}

-- the steps, and a plane's deltas
pub record Stepped (f : Frame) (chroma : Bool) (steps : List ℕ) : Type 0 where
  pub steps_ok : steps_check steps ≡ Ok tt
  pub deltaq_ok : delta_ok (plane_of f chroma).deltaq ≡ true
  pub deltaside_ok : delta_ok (plane_of f chroma).deltaside ≡ true

-- a plane of size samples with a grid that is long enough, and whose tile starts and cells are good
pub record Gridded (f : Frame) (chroma : Bool) (g : Grid) (size : ℕ) : Type 0 where
  pub sampled : Sampled f chroma size
  pub lengths : plane_lengths_ok (plane_of f chroma) g size ≡ true
  pub tiles_ok : tiles_check (plane_of f chroma).cols g.tiles ≡ Ok tt
  pub cells : bad_cell (plane_of f chroma) g ≡ None

-- a grid's lists by their lengths
abbrev pub lengths_by : ℕ → ℕ → ℕ → ℕ → ℕ → ℕ → GridLengths
lengths_by v h w t q k = record { vedge = v; hedge = h; sqw = w; sqh = t; qindex = q; keep = k }

-- a frame's lists, luma's and chroma's grid by their lengths
abbrev pub lengths_for : Given → Planes → GridLengths → GridLengths → FrameLengths
lengths_for n p luma chroma = record {
  y = length p.y;
  u = length p.u;
  v = length p.v;
  luma = luma;
  chroma = chroma;
  sbq = length n.sbq;
  leaves = length n.leaves;
  chromaleaves = length n.chroma_leaves;
  skips = length n.skips;
}
