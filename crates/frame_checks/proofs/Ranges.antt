-- The cells and superblocks of a frame's planes are in range where its size is.
-- Assumes nothing.
use mathlib.Core.Path.{◌≡◌}
use mathlib.Core.Bool.{Bool, true, false}
use Prim.Native.Nat.{ℕ, zero, suc, ◌/◌, ◌≤◌}
use native.Mathlib.Omega.{arith}
use lib.IntN.{ℤ}
use Rattle.rules.specs.declared.settings.Frame.{Frame}
use Rattle.rules.specs.declared.settings.Plane.{Plane}
use Rattle.rules.specs.Numbers.{down}
use Rattle.rules.specs.Frame.{up_to_eight, halved, luma_plane, chroma_plane}
use Rattle.rounding.proofs.Within.{half_some, half_most}
use Rattle.frame_checks.specs.Settings.{Sized, plane_of}

-- a property of a shift by 0 and by 1
pub by_shift : (P : ℕ → Type 0) (ss n : ℕ) → ss ≤ 1 → P n → P (n / 2) → P (down ss n)
unfolding down
by_shift P zero n h a b = let e : n / 1 ≡ n = omega arith in rw e a
by_shift P (suc k) n h a b = let e : suc k ≡ 1 = omega arith in rw e b

-- 1 to 4096 samples, halved or not, are 1 to 1024 cells
pub cells_some : (n : ℕ) → 1 ≤ n → 1 ≤ up_to_eight n / 4
unfolding up_to_eight
cells_some n h = omega arith

pub cells_most : (n : ℕ) → n ≤ 4096 → up_to_eight n / 4 ≤ 1024
unfolding up_to_eight
cells_most n h = omega arith

-- a plane's cells each way
pub record Cells (cols rows : ℕ) : Type 0 where
  pub some_cols : 1 ≤ cols
  pub cols_most : cols ≤ 1024
  pub some_rows : 1 ≤ rows
  pub rows_most : rows ≤ 1024

pub cells : (f : Frame) (chroma : Bool) → Sized f → Cells (plane_of f chroma).cols (plane_of f chroma).rows
unfolding luma_plane chroma_plane
cells f false z = record { some_cols = cells_some _ z.some_width; cols_most = cells_most _ z.width_most; some_rows = cells_some _ z.some_height; rows_most = cells_most _ z.height_most }
cells f true z =
    record {
      some_cols = cells_some _ (half_some _ _ z.ssx_most z.some_width);
      cols_most = cells_most _ (half_most _ _ 4096 z.ssx_most (omega arith) z.width_most);
      some_rows = cells_some _ (half_some _ _ z.ssy_most z.some_height);
      rows_most = cells_most _ (half_most _ _ 4096 z.ssy_most (omega arith) z.height_most);
    }

-- superblocks of 8 or 16 cells
pub blocks : (f : Frame) (chroma : Bool) → Sized f → (8 ≤ (plane_of f chroma).sbw) × ((plane_of f chroma).sbw ≤ 16) × (8 ≤ (plane_of f chroma).sbh) × ((plane_of f chroma).sbh ≤ 16)
unfolding luma_plane chroma_plane
blocks f false z = (omega arith, omega arith, omega arith, omega arith)
blocks f true z = (
  by_shift (λ n. 8 ≤ n) _ 16 z.ssx_most (omega arith) (omega arith),
  by_shift (λ n. n ≤ 16) _ 16 z.ssx_most (omega arith) (omega arith),
  by_shift (λ n. 8 ≤ n) _ 16 z.ssy_most (omega arith) (omega arith),
  by_shift (λ n. n ≤ 16) _ 16 z.ssy_most (omega arith) (omega arith),
)

-- ---- a plane's settings from its sizes, as the code makes them

abbrev luma_from : Frame → ℕ → ℕ → ℤ → Plane
luma_from f w h d = record {
  cols = w / 4;
  rows = h / 4;
  stride = f.lumastride;
  width = w;
  height = h;
  sbw = 16;
  sbh = 16;
  chroma = false;
  depth = f.depth;
  deltaq = d;
  deltaside = d;
}

pub luma_is : (f : Frame) (w h : ℕ) (d : ℤ) → d ≡ f.deltay → w ≡ up_to_eight f.width → h ≡ up_to_eight f.height → luma_from f w h d ≡ luma_plane f
unfolding luma_plane
luma_is f w h d i e g = rw (i, e, g)

abbrev chroma_from : Frame → ℕ → ℕ → ℕ → ℕ → ℕ → ℕ → ℤ → Plane
chroma_from f w h bw bh sbw sbh d = record {
  cols = w / 4;
  rows = h / 4;
  stride = f.chromastride;
  width = bw;
  height = bh;
  sbw = sbw;
  sbh = sbh;
  chroma = true;
  depth = f.depth;
  deltaq = d;
  deltaside = d;
}

-- a size halved and rounded up
pub eighths_by : (a n w : ℕ) → a ≡ n → w ≡ up_to_eight a → w ≡ up_to_eight n
eighths_by a n w e g = rw e at g

-- a size rounded up and shifted
pub down_by : (ss a n w : ℕ) → a ≡ n → w ≡ down ss a → w ≡ down ss n
down_by ss a n w e g = rw e at g

module _ (f : Frame) (w h bw bh sbw sbh : ℕ) (d : ℤ) (i : d ≡ f.deltauv) where
  pub chroma_is : w ≡ up_to_eight (halved f.ssx f.width) → h ≡ up_to_eight (halved f.ssy f.height) → bw ≡ down f.ssx (up_to_eight f.width) → bh ≡ down f.ssy (up_to_eight f.height) → sbw ≡ down f.ssx 16 → sbh ≡ down f.ssy 16 → chroma_from f w h bw bh sbw sbh d ≡ chroma_plane f
  unfolding chroma_plane
  chroma_is e1 e2 e3 e4 e5 e6 = rw (i, e1, e2, e3, e4, e5, e6)
