-- The first place of a text at which a test holds, and the tests. Assumes nothing.
use Rattle.std.specs.Prelude.{ℕ, zero, suc, List, Bool, not, get_or, eqb}
use Rattle.laws.specs.Choose.{pick, either}

-- the first of n places from at on at which q holds, else the place after them
unfoldable pub seek : (ℕ → Bool) → ℕ → ℕ → ℕ
seek q at zero = at
seek q at (suc n) = pick (q at) at (seek q (suc at) n)

-- a newline stands at k
unfoldable pub newline_at : List ℕ → ℕ → Bool
newline_at xs k = eqb (get_or xs k 0) 10

-- a number sign or a carriage return
unfoldable pub remark : ℕ → Bool
remark b = either (eqb b 35) (eqb b 13)

unfoldable pub remark_at : List ℕ → ℕ → Bool
remark_at xs k = remark (get_or xs k 0)

-- a space or a tab
unfoldable pub blank_of : ℕ → Bool
blank_of b = either (eqb b 32) (eqb b 9)

unfoldable pub blank_at : List ℕ → ℕ → Bool
blank_at xs k = blank_of (get_or xs k 0)

-- something else stands at k
unfoldable pub ink_at : List ℕ → ℕ → Bool
ink_at xs k = not (blank_of (get_or xs k 0))
