-- Document 01's D and moves with D held as a sign and a size.
-- Assumes nothing.
use Rattle.std.specs.Prelude.{ℕ, ◌+◌, ◌-◌, ◌/◌, min, Bool, true, false, ℤ, pos, ◌+ℤ◌, ◌-ℤ◌, neg_ℤ}
use Rattle.laws.specs.Whole.{limit}
use Rattle.rules.specs.Taps.{rounded}

-- n above 0 where the sign is plus, and below it where not
unfoldable pub signed : Bool → ℕ → ℤ
signed true n = pos n
signed false n = neg_ℤ (pos n)

-- a sample moved by n/2048 with the sign, and against it, limited to 0..top
unfoldable pub along : ℕ → ℕ → Bool → ℕ → ℕ
along top x plus n = limit top (pos x +ℤ rounded (signed plus n))

unfoldable pub against : ℕ → ℕ → Bool → ℕ → ℕ
against top x plus n = limit top (pos x -ℤ rounded (signed plus n))

-- the same in counts: the size of a move by n/2048, rounded, and a sample moved up or down by a size, limited to 0..top
unfoldable pub size_of : Bool → ℕ → ℕ
size_of true n = (1024 + n) / 2048
size_of false n = (1023 + n) / 2048

unfoldable pub shift_of : ℕ → ℕ → Bool → ℕ → ℕ
shift_of top x true n = min (x + n) top
shift_of top x false n = min (x - n) top
