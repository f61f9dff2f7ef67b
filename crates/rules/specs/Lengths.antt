-- Document 01, "Lengths": the eight pairs, how many samples a side of a pair filters and reaches, and the ladder.
-- Assumes nothing.
use Rattle.std.specs.Prelude.{ℕ, ◌-◌, ◌/◌, Bool, List, [], ◌∷◌, eqb, get_or}
use Rattle.laws.specs.Choose.{pick}

-- "The pairs are numbered 0..7: 4,4; 8,8; 14,14; 18,18; 14,18; 10,10; 6,8; 6,10."
unfoldable pub length_before : ℕ → ℕ
length_before pair = get_or (4 ∷ 8 ∷ 14 ∷ 18 ∷ 14 ∷ 10 ∷ 6 ∷ 6 ∷ []) pair 0

unfoldable pub length_after : ℕ → ℕ
length_after pair = get_or (4 ∷ 8 ∷ 14 ∷ 18 ∷ 18 ∷ 10 ∷ 8 ∷ 10 ∷ []) pair 0

-- "A side of length L filters at most L/2 - 1 samples."
unfoldable pub most_before : ℕ → ℕ
most_before pair = length_before pair / 2 - 1

unfoldable pub most_after : ℕ → ℕ
most_after pair = length_after pair / 2 - 1

-- "Its reach is 3,3,4,5,7,8 for L = 4,6,8,10,14,18."
unfoldable pub reach_of : ℕ → ℕ
reach_of L = pick (eqb L 4) 3 (pick (eqb L 6) 3 (pick (eqb L 8) 4 (pick (eqb L 10) 5 (pick (eqb L 14) 7 8))))

unfoldable pub reach_before : ℕ → ℕ
reach_before pair = reach_of (length_before pair)

unfoldable pub reach_after : ℕ → ℕ
reach_after pair = reach_of (length_after pair)

-- the table of m by plane kind and shortening, in pair numbers
unfoldable pub pair_of : ℕ → Bool → Bool → ℕ
pair_of m chroma shortened =
    pick (eqb m 0) 0
    (pick (eqb m 1) (pick chroma (pick shortened 6 1) 1)
    (pick (eqb m 2) (pick chroma (pick shortened 7 5) 2)
    (pick chroma (pick shortened 7 5) (pick shortened 4 3))))
