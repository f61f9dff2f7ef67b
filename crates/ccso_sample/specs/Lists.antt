-- What a sample of the target is made from, and what luma and the offsets promise.
-- Assumes nothing.
use Rattle.std.specs.Prelude.{◌≡◌, List, ℕ, ◌*◌, ◌-◌, ◌/◌, ◌≤◌, ◌<◌, get_or, length, ℤ, pos, ◌+ℤ◌}
use Rattle.laws.specs.Whole.{between}
use Rattle.rules.specs.declared.settings.Ccso.{Ccso}
use Rattle.rules.specs.Numbers.{top_of, down, up}
use Rattle.rules.specs.Frame.{superblocks}
use Rattle.rules.specs.Ccso.{target_width, target_height, place_at, offset_sample, offset_count}
use Rattle.ccso_sample.specs.declared.taps.Row.{Row}
use Rattle.ccso_sample.specs.Ranges.{SignedWithin}

-- the row that a tap dy away from row y reads
unfoldable pub tap_row : Ccso → ℤ → ℕ → ℕ
tap_row s dy y = between 0 (s.height - 1) (pos (up s.ssy y) +ℤ dy)

-- where row y of the target starts, with its luma rows and its flags
pub record RowOf (s : Ccso) (r : Row) : Type 0 where
  pub inside : r.y < target_height s
  pub at : r.at ≡ r.y * target_width s
  pub centre : r.centre ≡ up s.ssy r.y * s.width
  pub tap0 : r.tap0 ≡ tap_row s s.dy0 r.y * s.width
  pub tap1 : r.tap1 ≡ tap_row s s.dy1 r.y * s.width
  pub flags : r.flags ≡ r.y / down s.ssy 64 * superblocks s.width

-- luma is long enough, and no sample of it is over top
pub record Lit (s : Ccso) (luma : List ℕ) : Type 0 where
  pub long : s.height * s.width ≤ length luma
  pub top : (i : ℕ) → i < s.height * s.width → get_or luma i 0 ≤ top_of s.depth

-- the offsets in use are there, and small
pub record Small (s : Ccso) (offsets : List ℤ) : Type 0 where
  pub long : offset_count s ≤ length offsets
  pub each : (k : ℕ) → k < offset_count s → SignedWithin (get_or offsets k (pos 0)) 10

-- the sample of column x and row y, where its block's flag is on
unfoldable pub moved_at : Ccso → List ℕ → List ℤ → ℕ → ℕ → ℕ → ℕ
moved_at s luma offsets x y sample = offset_sample s sample (get_or offsets (place_at s luma x y) (pos 0))
