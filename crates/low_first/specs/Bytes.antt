-- A number in n bytes, low byte first: at a place of a list of bytes, and as a list of its own.
-- Assumes nothing.
use Rattle.std.specs.Prelude.{List, [], ◌∷◌, ℕ, zero, suc, ◌+◌, ◌*◌, ◌/◌, ◌%◌, get_or}

-- the number of n bytes at a place
unfoldable pub number_in : ℕ → List ℕ → ℕ → ℕ
number_in zero bytes at = 0
number_in (suc n) bytes at = get_or bytes at 0 + 256 * number_in n bytes (at + 1)

-- the n bytes of a number
unfoldable pub low_first : ℕ → ℕ → List ℕ
low_first zero v = []
low_first (suc n) v = v % 256 ∷ low_first n (v / 256)

-- byte i of a list of numbers of n bytes each
unfoldable pub byte_at : ℕ → List ℕ → ℕ → ℕ
byte_at n l i = get_or (low_first n (get_or l (i / n) 0)) (i % n) 0
