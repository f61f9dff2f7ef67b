-- How large M and W are, each by one computed test, and with them D and what it is multiplied by.
-- Assumes nothing.
use Rattle.std.proofs.Common.{ℕ, ◌-◌, ◌*◌, ◌≤◌, Bool, leb, mul-le-mul, arith, leb→le}
use Rattle.laws.specs.Table.{at}
use Rattle.rules.specs.Taps.{most, weights, most_of, weight_of}

most_small : ℕ → ℕ → Bool
most_small k x = leb x 32

pub most_le : (w : ℕ) → 1 ≤ w → w ≤ 8 → most_of w ≤ 32
unfolding most_small
most_le w l h = leb→le (most_of w) 32 (at most_small most tt (w - 1) (omega arith))

weight_small : ℕ → ℕ → Bool
weight_small k x = leb x 85

pub weight_le : (s : ℕ) → 1 ≤ s → s ≤ 8 → weight_of s ≤ 85
unfolding weight_small
weight_le s l h = leb→le (weight_of s) 85 (at weight_small weights tt (s - 1) (omega arith))

-- q·M[w] and a size of D times W[s]
pub limit_le : (q w : ℕ) → q ≤ 2048 → 1 ≤ w → w ≤ 8 → q * most_of w ≤ 65536
limit_le q w a b c = mul-le-mul a (most_le w b c)

pub weighted_le : (size weight : ℕ) → size ≤ 65536 → weight ≤ 85 → size * weight ≤ 5570560
weighted_le size weight a b = mul-le-mul a b

pub move_le : (by k : ℕ) → by ≤ 5570560 → k ≤ 8 → by * k ≤ 44564480
move_le by k a b = mul-le-mul a b
