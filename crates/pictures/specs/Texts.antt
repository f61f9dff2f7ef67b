-- What can be said of a line that is read: a file's bytes are no part of the logic. Assumes nothing.
use Rattle.std.specs.Prelude.{◌≡◌, List, ℕ, ◌≤◌, ◌<◌, length, get_or, drop}

-- r bytes of a line stand at the buffer's front; one that ends within the buffer has no newline
pub record Line (before after : List ℕ) (r : ℕ) : Type 0 where
  pub within : r ≤ length after
  pub long : length after ≡ length before
  pub rest : drop r after ≡ drop r before
  pub bare : r < length after → (k : ℕ) → k < r → get_or after k 0 ≡ 10 → ⊥
