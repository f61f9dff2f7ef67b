-- What the functions of a picture are lent: the settings' lists, each long enough. Assumes nothing.
use Rattle.std.specs.Prelude.{ℕ, ◌≤◌}

-- n numbers, s short numbers, t steps, f flags, o offsets, p places
pub record Lent (n s t f o p : ℕ) : Type 0 where
  pub numbers : 64 ≤ n
  pub shorts : 22526 ≤ s
  pub steps : 352 ≤ t
  pub flags : 12288 ≤ f
  pub offsets : 384 ≤ o
  pub places : 24 ≤ p
