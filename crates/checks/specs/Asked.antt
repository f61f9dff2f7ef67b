-- How much of a list of keep marks says all of its first cells.
-- Assumes nothing.
use Rattle.std.specs.Prelude.{◌≡◌, List, ℕ, ◌≤◌, ◌<◌, length, get_or, take}

-- n marks of the list, beyond which every mark is 0, say the same of count cells as the list does
pub record Asked (count : ℕ) (keep : List ℕ) (n : ℕ) : Type 0 where
  pub fits : n ≤ length keep
  pub same : (k : ℕ) → k < count → get_or (take n keep) k 0 ≡ get_or keep k 0
