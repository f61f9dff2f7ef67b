-- Where the records stand in a list of n bytes: one after the other. Assumes nothing.
use Rattle.std.specs.Prelude.{ℕ, ◌≤◌}
use Rattle.replay_picture.specs.declared.load.Records.{Records}

pub record Held (r : Records) (n : ℕ) : Type 0 where
  pub first : r.y ≤ r.u
  pub second : r.u ≤ r.v
  pub third : r.v ≤ n
