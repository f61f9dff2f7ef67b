-- Both thresholds of a block in one number, and a table of them that is made once and read at each edge.
-- Assumes nothing.
use Rattle.std.specs.Prelude.{◌≡◌, List, ℕ, ◌+◌, ◌*◌, min, max, get_or, ℤ}
use Rattle.laws.specs.Whole.{under}
use Rattle.rules.specs.Numbers.{offset_of}
use Rattle.rules.specs.Thresholds.{index_of, quant_of, step_of, side_of}

-- q·65536 + side of one block
unfoldable pub packed_of : ℕ → List ℕ → ℤ → ℤ → ℕ → ℕ
packed_of depth steps deltaq deltaside qindex =
    quant_of (step_of depth steps (index_of qindex deltaq)) * 65536 + side_of depth (index_of qindex deltaside)

-- from this qindex on all are alike, at every depth and delta: 8·128 + 96 + 295
abbrev pub last_qindex : ℕ
last_qindex = 1415

-- and at a depth and two deltas from this one on
unfoldable pub steady_from : ℕ → ℤ → ℤ → ℕ
steady_from depth deltaq deltaside = 8 * max (under deltaq) (under deltaside) + offset_of depth + 295

-- the table answers for every qindex
pub record ByQindex (depth : ℕ) (steps : List ℕ) (deltaq deltaside : ℤ) (table : List ℕ) : Type 0 where
  pub at : (qindex : ℕ) → get_or table (min qindex last_qindex) 0 ≡ packed_of depth steps deltaq deltaside qindex
