-- Every pair of what a loop makes and of another list.
-- Assumes nothing.
use Rattle.std.specs.Prelude.{List, ℕ, ◌<◌}
use Rattle.laws.specs.Loops.{each}
use Rattle.laws.specs.Lists.{Each, Pairs, each_loop}

module _ {E : Type 0} where
  pub pairs_loop_left : (R : E → E → Type 0) (n : ℕ) (f : ℕ → List E) (ys : List E) → ((k : ℕ) → k < n → Pairs R (f k) ys) → Pairs R (each n f) ys
  pairs_loop_left R n f ys h = each_loop (λ x. Each (R x) ys) n f h
