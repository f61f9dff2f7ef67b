-- How many samples of two planes differ. Assumes nothing.
use Rattle.std.specs.Prelude.{ℕ, zero, suc, ◌+◌, List, eqb, get_or}
use Rattle.laws.specs.Choose.{pick}

-- 1 where two samples differ
unfoldable pub differs_of : ℕ → ℕ → ℕ
differs_of a b = pick (eqb a b) 0 1

-- among the first n
unfoldable pub differing_of : List ℕ → List ℕ → ℕ → ℕ
differing_of a b zero = 0
differing_of a b (suc n) = differing_of a b n + differs_of (get_or a n 0) (get_or b n 0)
