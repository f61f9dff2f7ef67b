-- Where samples stand: columns and rows of the target in luma, each within its list, and the tap and centre that the code reads there.
-- Assumes nothing.
use mathlib.Core.Path.{◌≡◌}
use mathlib.Core.List.{List}
use Prim.Native.Nat.{ℕ, ◌+◌, ◌-◌, ◌*◌, ◌/◌, ◌^◌, ◌≤◌, ◌<◌}
use native.Mathlib.Nat.{mul-le-mul, mul-le-mul_right, suc-mul}
use native.Mathlib.Omega.{arith}
use borrow.Author.Rules.{rules}
use mir.Syntax.{w64}
use mir.Val.{Fits}
use lib.ListN.{get_or, length}
use lib.IntN.{ℤ, pos, negsuc, ◌+ℤ◌}
use Rattle.laws.specs.Whole.{between}
use Rattle.rules.specs.declared.settings.Ccso.{Ccso}
use Rattle.rules.specs.Numbers.{down, up}
use Rattle.rules.specs.Frame.{halved, superblocks}
use Rattle.rules.specs.Ccso.{target_width, target_height, luma_at, centre_of, tap_of, tap_class, offset_place, place_at}
use Rattle.rounding.proofs.Within.{by_one, half_most}
use Rattle.ccso_sample.specs.declared.counts.Counts.{Counts}
use Rattle.ccso_sample.specs.declared.taps.Row.{Row}
use Rattle.ccso_sample.specs.Ranges.{Ranges, Raised}
use Rattle.ccso_sample.specs.Lists.{tap_row, RowOf, Lit}

-- a place of the shifted picture, shifted up, lies in the picture
up_below : (ss size n : ℕ) → ss ≤ 1 → n < halved ss size → n * 2 ^ ss < size
unfolding halved down
up_below ss size n h = by_one (λ k. n < (size + k) / 2 ^ k → n * 2 ^ k < size) (λ l. omega arith) (λ l. omega arith) ss h

-- a cell of a grid has its number below the grid's size
pub cell_below : (r rows c cols : ℕ) → r < rows → c < cols → r * cols + c < rows * cols
cell_below r rows c cols hr hc = omega (arith, mul-le-mul_right cols hr, suc-mul r cols)

-- a limited place is one of the picture
between_below : (size : ℕ) (z : ℤ) → 1 ≤ size → between 0 (size - 1) z < size
between_below size (pos n) h = omega arith
between_below size (negsuc n) h = omega arith

tap_row_holds : {s : Ccso} → Ranges s → (dy : ℤ) (y : ℕ) → tap_row s dy y < s.height
unfolding tap_row
tap_row_holds {s} a dy y = between_below s.height (pos (up s.ssy y) +ℤ dy) a.some_height

area_most : {s : Ccso} → Ranges s → s.height * s.width ≤ 4096 * 4096
area_most {s} a = mul-le-mul a.height_most a.width_most

-- a column of the target
module _ {s : Ccso} {k : Counts} (u : Raised s k) (x : ℕ) (h : x < target_width s) where
  pub column : x * k.across < s.width
  unfolding target_width
  column = rw u.across (up_below s.ssx s.width x u.ranges.ssx_most h)

  pub column_fits : Fits w64 (x * k.across)
  column_fits = record { fits = omega (arith, column, u.ranges.width_most) }

  pub column_most : x * k.across ≤ 8192
  column_most = omega (arith, column, u.ranges.width_most)

-- the target is no larger than luma
pub width_most : {s : Ccso} → Ranges s → target_width s ≤ 4096
unfolding target_width
width_most {s} a = half_most s.ssx s.width 4096 a.ssx_most (omega arith) a.width_most

pub height_most : {s : Ccso} → Ranges s → target_height s ≤ 4096
unfolding target_height
height_most {s} a = half_most s.ssy s.height 4096 a.ssy_most (omega arith) a.height_most

-- blocks: some samples wide, and not many across
pub block_some : (ss : ℕ) → ss ≤ 1 → 0 < down ss 64
unfolding down
block_some ss h = by_one (λ n. 0 < 64 / 2 ^ n) (omega arith) (omega arith) ss h

pub blocks_most : {s : Ccso} → Ranges s → superblocks s.width ≤ 64
unfolding superblocks
blocks_most a = omega (arith, a.width_most)

-- a row of the target
module _ {s : Ccso} {k : Counts} (u : Raised s k) (y : ℕ) (h : y < target_height s) where
  pub line : y * k.down < s.height
  unfolding target_height
  line = rw u.down (up_below s.ssy s.height y u.ranges.ssy_most h)

  pub line_fits : Fits w64 (y * k.down)
  line_fits = record { fits = omega (arith, line, u.ranges.height_most) }

  pub line_most : y * k.down ≤ 8192
  line_most = omega (arith, line, u.ranges.height_most)

-- a product of two sizes
pub product_fits : (a b : ℕ) → a ≤ 4096 → b ≤ 4096 → Fits w64 (a * b)
product_fits a b h l = record { fits = omega (arith, mul-le-mul h l) }

-- the rows that a row of the target reads
module _ {s : Ccso} (a : Ranges s) {r : Row} (o : RowOf s r) (i : ℕ) (h : i < s.width) where
  centre_row : up s.ssy r.y < s.height
  unfolding target_height up
  centre_row = up_below s.ssy s.height r.y a.ssy_most o.inside

  pub centre_below : r.centre + i < s.height * s.width
  centre_below = rw o.centre (cell_below _ _ _ _ centre_row h)

  pub tap0_below : r.tap0 + i < s.height * s.width
  tap0_below = rw o.tap0 (cell_below _ _ _ _ (tap_row_holds a s.dy0 r.y) h)

  pub tap1_below : r.tap1 + i < s.height * s.width
  tap1_below = rw o.tap1 (cell_below _ _ _ _ (tap_row_holds a s.dy1 r.y) h)

-- a place of the picture: it fits, with its byte offset, and luma has it
module _ {s : Ccso} (a : Ranges s) (i : ℕ) (h : i < s.height * s.width) where
  pub place_fits : Fits w64 i
  place_fits = record { fits = omega (arith, area_most a) }

  pub bytes_fit : Fits w64 (i * 2)
  bytes_fit = record { fits = omega (arith, area_most a) }

  pub place_there : (luma : List ℕ) → Lit s luma → i < length luma
  place_there luma l = omega (arith, l.long)

-- a sample of the target, likewise
pub target_below : {s : Ccso} {r : Row} → RowOf s r → (x : ℕ) → x < target_width s → r.at + x < target_height s * target_width s
target_below {s} {r} o x h = rw o.at (cell_below r.y (target_height s) x (target_width s) o.inside h)

module _ {s : Ccso} (a : Ranges s) (i : ℕ) (h : i < target_height s * target_width s) where
  most : target_height s * target_width s ≤ 4096 * 4096
  most = mul-le-mul (height_most a) (width_most a)

  pub sample_fits : Fits w64 i
  sample_fits = record { fits = omega (arith, most) }

  pub sample_bytes : Fits w64 (i * 2)
  sample_bytes = record { fits = omega (arith, most) }

-- the centre and the taps, as the code reads them
module _ {s : Ccso} {k : Counts} (u : Raised s k) {r : Row} (o : RowOf s r) (luma : List ℕ) (x : ℕ) where
  pub centre_is : get_or luma (r.centre + x * k.across) 0 ≡ centre_of s luma x r.y
  unfolding centre_of luma_at up
  centre_is = rw (o.centre, u.across)

  pub tap0_is : (i : ℕ) → i ≡ between 0 (s.width - 1) (pos (x * k.across) +ℤ s.dx0) → get_or luma (r.tap0 + i) 0 ≡ tap_of s luma s.dx0 s.dy0 x r.y
  unfolding tap_of luma_at up tap_row
  tap0_is i e = rw (e, o.tap0, u.across)

  pub tap1_is : (i : ℕ) → i ≡ between 0 (s.width - 1) (pos (x * k.across) +ℤ s.dx1) → get_or luma (r.tap1 + i) 0 ≡ tap_of s luma s.dx1 s.dy1 x r.y
  unfolding tap_of luma_at up tap_row
  tap1_is i e = rw (e, o.tap1, u.across)

-- the place of an offset, from what the code read
module _ (s : Ccso) (luma : List ℕ) (x y c t0 t1 class0 class1 p : ℕ) where
  pub place_is : c ≡ centre_of s luma x y → t0 ≡ tap_of s luma s.dx0 s.dy0 x y → t1 ≡ tap_of s luma s.dx1 s.dy1 x y → class0 ≡ tap_class s t0 c → class1 ≡ tap_class s t1 c → p ≡ offset_place s c class0 class1 → p ≡ place_at s luma x y
  unfolding place_at
  place_is ec e0 e1 f0 f1 e = rw (← ec, ← e0, ← e1, ← f0, ← f1) e

-- where a tap's row is, from the place that the code limited
pub tap_row_is : {s : Ccso} {k : Counts} → Raised s k → (dy : ℤ) (y i : ℕ) → i ≡ between 0 (s.height - 1) (pos (y * k.down) +ℤ dy) → i ≡ tap_row s dy y
unfolding tap_row up
tap_row_is u dy y i e = rw u.down at e

-- blocks of w samples over a picture of tiles of 64: where a block starts, which block a sample is in, and that there is a tile for it
pub block_start : (ss size b : ℕ) → ss ≤ 1 → b < superblocks size → b * down ss 64 < halved ss size
unfolding superblocks halved down
block_start ss size b h = by_one (λ n. b < (size + 63) / 64 → b * (64 / 2 ^ n) < (size + n) / 2 ^ n) (λ l. omega arith) (λ l. omega arith) ss h

pub block_number : (ss b x : ℕ) → ss ≤ 1 → b * down ss 64 ≤ x → x < b * down ss 64 + down ss 64 → x / down ss 64 ≡ b
unfolding down
block_number ss b x h = by_one (λ n. b * (64 / 2 ^ n) ≤ x → x < b * (64 / 2 ^ n) + 64 / 2 ^ n → x / (64 / 2 ^ n) ≡ b) (λ l m. omega arith) (λ l m. omega arith) ss h

pub block_below : (ss size y : ℕ) → ss ≤ 1 → y < halved ss size → y / down ss 64 < superblocks size
unfolding superblocks halved down
block_below ss size y h = by_one (λ n. y < (size + n) / 2 ^ n → y / (64 / 2 ^ n) < (size + 63) / 64) (λ l. omega arith) (λ l. omega arith) ss h

pub block_end : (ss size : ℕ) → ss ≤ 1 → halved ss size ≤ superblocks size * down ss 64
unfolding superblocks halved down
block_end ss size h = by_one (λ n. (size + n) / 2 ^ n ≤ (size + 63) / 64 * (64 / 2 ^ n)) (omega arith) (omega arith) ss h

pub block_most : (ss : ℕ) → ss ≤ 1 → down ss 64 ≤ 64
unfolding down
block_most ss h = by_one (λ n. 64 / 2 ^ n ≤ 64) (omega arith) (omega arith) ss h

-- what closes the needs of the functions that find a row and read luma
pub ruleset row_starts = (rules, line_fits, line_most)

pub ruleset reads = (rules, column, column_fits, column_most, centre_below, tap0_below, tap1_below, place_fits)
