-- Rows of samples in a list: where they lie.
-- Assumes nothing.
use Rattle.std.specs.Prelude.{ℕ, ◌+◌, ◌*◌, ◌≤◌}

-- rows of count samples lie within a list of that size, the first at start and each a stride after the last
pub record Box (start stride count rows size : ℕ) : Type 0 where
  pub inside : start + rows * stride + count ≤ size + stride
