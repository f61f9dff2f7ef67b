-- A picture's planes are padded as a frame counts: their rows are as long, and as many, as the samples of the frame's cells. Assumes nothing.
use mathlib.Core.Path.{◌≡◌}
use Prim.Native.Nat.{ℕ, ◌+◌, ◌*◌, ◌/◌}
use native.Mathlib.Omega.{arith}
use Rattle.rules.specs.declared.settings.Frame.{Frame}
use Rattle.rules.specs.Numbers.{down}
use Rattle.rules.specs.Frame.{up_to_eight, halved, luma_plane, chroma_plane}
use Rattle.pictures.specs.Shapes.{shape_of}

-- a size rounded up to 8 is one of whole cells
cells_of : (n : ℕ) → up_to_eight n ≡ 4 * (up_to_eight n / 4)
unfolding up_to_eight
cells_of n = omega arith

-- luma has no subsampling
cells_whole : (n : ℕ) → up_to_eight (halved 0 n) ≡ 4 * (up_to_eight n / 4)
unfolding halved down
cells_whole n = let e : (n + 0) / 1 ≡ n = omega arith in rw e (cells_of n)

pub luma_padded : (f : Frame) → ((shape_of f.width f.height 0 0).stride ≡ 4 * (luma_plane f).cols) × ((shape_of f.width f.height 0 0).rows ≡ 4 * (luma_plane f).rows)
unfolding shape_of luma_plane
luma_padded f = (cells_whole f.width, cells_whole f.height)

pub chroma_padded : (f : Frame)
    → ((shape_of f.width f.height f.ssx f.ssy).stride ≡ 4 * (chroma_plane f).cols)
    × ((shape_of f.width f.height f.ssx f.ssy).rows ≡ 4 * (chroma_plane f).rows)
unfolding shape_of chroma_plane
chroma_padded f = (cells_of _, cells_of _)
