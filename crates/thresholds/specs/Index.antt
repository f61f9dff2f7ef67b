-- The index of a block as the code holds it.
-- Assumes nothing.
use Rattle.std.specs.Prelude.{◌≡◌, ℕ, ◌≤◌, ℤ, pos, ◌-ℤ◌}
use Rattle.laws.specs.declared.whole.Gap.{Gap}
use Rattle.rules.specs.Thresholds.{index_of}

-- the whole number that a gap stands for
unfoldable pub whole : Gap → ℤ
whole g = pos g.up -ℤ pos g.down

-- the gap is the index of a block, and small enough to be added to
pub record IndexIs (qindex : ℕ) (delta : ℤ) (g : Gap) : Type 0 where
  pub is : whole g ≡ index_of qindex delta
  pub up_most : g.up ≤ 1000000
  pub down_most : g.down ≤ 1000000
