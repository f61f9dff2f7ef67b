-- Demand 3: the straight ramp that a stored sample is held against, over whole numbers.
-- A straight ramp moves the sample i places from the edge by D(s-i)/(8(2s+1)). Every number of the demand is multiplied by 2048(2s+1) here:
-- the move is 256·D(s-i), and the bound 1/2 + e|D|(s-i)/(2048(2s+1)) is 1024(2s+1) + e|D|(s-i).
-- Assumes nothing.
use Rattle.std.specs.Prelude.{List, [], ◌∷◌, ℕ, ◌+◌, ◌*◌, ◌-◌, ◌≤◌, get_or, ℤ, pos, nat_abs, ◌+ℤ◌, ◌-ℤ◌, ◌*ℤ◌}
use Rattle.laws.specs.Whole.{limit}

-- how far two counts lie apart
abbrev pub apart : ℕ → ℕ → ℕ
apart a b = (a - b) + (b - a)

-- e = 1,1,3,4,3,4,1,1 for s = 1..8
abbrev pub errors : List ℕ
errors = 1 ∷ 1 ∷ 3 ∷ 4 ∷ 3 ∷ 4 ∷ 1 ∷ 1 ∷ []

abbrev pub error_of : ℕ → ℕ
error_of s = get_or errors (s - 1) 0

-- what everything is multiplied by
abbrev pub unit : ℕ → ℕ
unit s = 2048 * (2 * s + 1)

-- the ramp's result before and after the edge, limited to the depth's range
abbrev pub ramp_before : ℕ → ℕ → ℤ → ℕ → ℕ → ℕ
ramp_before top x d s i = limit (unit s * top) (pos (unit s * x) +ℤ d *ℤ pos (256 * (s - i)))

abbrev pub ramp_after : ℕ → ℕ → ℤ → ℕ → ℕ → ℕ
ramp_after top x d s i = limit (unit s * top) (pos (unit s * x) -ℤ d *ℤ pos (256 * (s - i)))

-- the stored sample y lies near the ramp's result
abbrev pub Near : ℕ → ℕ → ℤ → ℕ → ℕ → Type 0
Near y ramp d s i = apart (unit s * y) ramp ≤ 1024 * (2 * s + 1) + error_of s * (nat_abs d * (s - i))
