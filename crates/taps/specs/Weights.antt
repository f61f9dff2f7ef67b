-- Demand 3's rule of the weights: each W[s] times 2s+1 lies within e of 256.
-- Assumes nothing.
use Rattle.std.specs.Prelude.{ℕ, ◌+◌, ◌*◌, Bool, nat_le}
use Rattle.rules.specs.Ramp.{apart, error_of}

-- the weight w stands at place k of the table, for the width k + 1
unfoldable pub near_unit : ℕ → ℕ → Bool
near_unit k w = nat_le (apart (w * (2 * (k + 1) + 1)) 256) (error_of (k + 1))
