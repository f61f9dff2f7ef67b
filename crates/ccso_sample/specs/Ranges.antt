-- What accepted settings promise the run, and the settings as counts.
-- Assumes nothing.
use Rattle.std.specs.Prelude.{◌≡◌, true, ℕ, ◌≤◌, ◌^◌, ℤ}
use Rattle.laws.specs.Whole.{Is, over, under}
use Rattle.rules.specs.declared.settings.Ccso.{Ccso}
use Rattle.rules.specs.Numbers.{depth_ok, top_of, down}
use Rattle.rules.specs.Frame.{superblocks}
use Rattle.rules.specs.Ccso.{target_width, target_height}
use Rattle.ccso_sample.specs.declared.counts.Counts.{Counts}
use Rattle.ccso_sample.specs.declared.counts.Sizes.{Sizes}

-- a signed number in -most..most
pub record SignedWithin (z : ℤ) (most : ℕ) : Type 0 where
  pub high : over z ≤ most
  pub low : under z ≤ most

-- settings in their ranges
pub record Ranges (s : Ccso) : Type 0 where
  pub some_width : 1 ≤ s.width
  pub width_most : s.width ≤ 4096
  pub some_height : 1 ≤ s.height
  pub height_most : s.height ≤ 4096
  pub ssx_most : s.ssx ≤ 1
  pub ssy_most : s.ssy ≤ 1
  pub depth : depth_ok s.depth ≡ true
  pub depth_least : 8 ≤ s.depth
  pub depth_most : s.depth ≤ 12
  pub scale_most : s.scale ≤ 16
  pub band_most : s.bandlog ≤ 3
  pub below_most : s.below ≤ 3
  pub within_most : s.within ≤ 3
  pub above_most : s.above ≤ 3
  pub lo : SignedWithin s.lo 4095
  pub hi : SignedWithin s.hi 4095
  pub dx0 : SignedWithin s.dx0 16
  pub dy0 : SignedWithin s.dy0 16
  pub dx1 : SignedWithin s.dx1 16
  pub dy1 : SignedWithin s.dy1 16

-- settings in their ranges, as counts
pub record Raised (s : Ccso) (k : Counts) : Type 0 where
  pub ranges : Ranges s
  pub lo : Is s.lo k.lo 4095
  pub hi : Is s.hi k.hi 4095
  pub dx0 : Is s.dx0 k.dx0 16
  pub dy0 : Is s.dy0 k.dy0 16
  pub dx1 : Is s.dx1 k.dx1 16
  pub dy1 : Is s.dy1 k.dy1 16
  pub across : k.across ≡ 2 ^ s.ssx
  pub down : k.down ≡ 2 ^ s.ssy
  pub top : k.top ≡ top_of s.depth
  pub top_most : k.top ≤ 4095

-- the target's sizes
pub record Sized (s : Ccso) (z : Sizes) : Type 0 where
  pub width : z.width ≡ target_width s
  pub height : z.height ≡ target_height s
  pub blockw : z.blockw ≡ down s.ssx 64
  pub blockh : z.blockh ≡ down s.ssy 64
  pub blocks : z.blocks ≡ superblocks s.width
