-- Document 01, "Numbers accepted": the depths and the ranges that several entries share.
-- Assumes nothing.
use Rattle.std.specs.Prelude.{ℕ, ◌+◌, ◌*◌, ◌-◌, ◌/◌, ◌^◌, Bool, true, false, List, [], ◌∷◌, eqb, leb, ℤ, pos, neg_ℤ}
use Rattle.std.specs.Int.Signed.{le_z}
use Rattle.laws.specs.Choose.{pick, either, both, all}

-- "Samples are u16 in 0..top, top = 2^depth - 1, depth 8, 10 or 12."
unfoldable pub depth_ok : ℕ → Bool
depth_ok depth = either (eqb depth 8) (either (eqb depth 10) (eqb depth 12))

unfoldable pub top_of : ℕ → ℕ
top_of depth = 2 ^ depth - 1

-- "Each depth is a type's constants: highest qindex 255, 303, 351; side offset 0, 48, 96; top sample."
unfoldable pub highest_of : ℕ → ℕ
highest_of depth = pick (eqb depth 8) 255 (pick (eqb depth 10) 303 351)

unfoldable pub offset_of : ℕ → ℕ
offset_of depth = pick (eqb depth 8) 0 (pick (eqb depth 10) 48 96)

-- the side threshold's divisor is 2^(13-depth)
unfoldable pub shift_of : ℕ → ℕ
shift_of depth = 13 - depth

-- low..high
unfoldable pub in_range : ℕ → ℕ → ℕ → Bool
in_range low high n = both (leb low n) (leb n high)

unfoldable pub in_range_z : ℤ → ℤ → ℤ → Bool
in_range_z low high z = both (le_z low z) (le_z z high)

-- "Deltas -128..127."
unfoldable pub delta_ok : ℤ → Bool
delta_ok delta = in_range_z (neg_ℤ (pos 128)) (pos 127) delta

-- "subsampling (0,0), (1,0) or (1,1)"
unfoldable pub subsampling_ok : ℕ → ℕ → Bool
subsampling_ok ssx ssy = both (leb ssx 1) (leb ssy ssx)

-- n shifted right, and shifted left, by a subsampling of 0 or 1
unfoldable pub down : ℕ → ℕ → ℕ
down ss n = n / 2 ^ ss

unfoldable pub up : ℕ → ℕ → ℕ
up ss n = n * 2 ^ ss
