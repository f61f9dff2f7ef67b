-- The first tests of the width choice as the code groups them: e is the larger of dm2 and d1, g is dm1+d0.
-- Assumes nothing.
use Rattle.std.specs.Prelude.{ℕ, ◌*◌, ◌/◌, Bool, eqb, ltb}
use Rattle.laws.specs.Choose.{either}

-- "q or side 0"
unfoldable pub off_of : ℕ → ℕ → Bool
off_of q side = either (eqb q 0) (eqb side 0)

-- "P = 1", or "dm2 or d1 > floor(side/4), or dm1+d0 > 4q"
unfoldable pub one_of : ℕ → ℕ → ℕ → ℕ → ℕ → Bool
one_of p q side e g = either (eqb p 1) (either (ltb (side / 4) e) (ltb (4 * q) g))

-- "dm2 or d1 > floor(side/8), or dm1+d0 > 3q"
unfoldable pub two_of : ℕ → ℕ → ℕ → ℕ → Bool
two_of q side e g = either (ltb (side / 8) e) (ltb (3 * q) g)
