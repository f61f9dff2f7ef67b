-- Document 01, "Taps": the edge difference D and the moves that it makes, over whole numbers.
-- Assumes nothing.
use Rattle.std.specs.Prelude.{List, [], ◌∷◌, ℕ, ◌+◌, ◌*◌, ◌-◌, get_or, ℤ, pos, ◌+ℤ◌, ◌-ℤ◌, ◌*ℤ◌}
use Rattle.std.specs.Int.Signed.{shr_z}
use Rattle.laws.specs.Whole.{within, limit}

-- "M = 32,25,19,19,18,18,17,17; W = 85,51,37,28,23,20,17,15 for widths 1..8"
abbrev pub most : List ℕ
most = 32 ∷ 25 ∷ 19 ∷ 19 ∷ 18 ∷ 18 ∷ 17 ∷ 17 ∷ []

abbrev pub weights : List ℕ
weights = 85 ∷ 51 ∷ 37 ∷ 28 ∷ 23 ∷ 20 ∷ 17 ∷ 15 ∷ []

abbrev pub most_of : ℕ → ℕ
most_of w = get_or most (w - 1) 0

abbrev pub weight_of : ℕ → ℕ
weight_of s = get_or weights (s - 1) 0

-- "D = 4(3(q0-p0) - (q1-p1)), limited to ±q·M[w]": w is the after-width, on both sides
abbrev pub difference : ℕ → ℕ → ℕ → ℕ → ℤ
difference p1 p0 q0 q1 = pos 4 *ℤ (pos 3 *ℤ (pos q0 -ℤ pos p0) -ℤ (pos q1 -ℤ pos p1))

abbrev pub limited : ℕ → ℕ → ℕ → ℕ → ℕ → ℕ → ℤ
limited p1 p0 q0 q1 q w = within (q * most_of w) (difference p1 p0 q0 q1)

-- floor((v + 1024)/2048)
abbrev pub rounded : ℤ → ℤ
rounded v = shr_z (v +ℤ pos 1024) 2048

-- "For i below the side's width s: move = floor((D·W[s]·(s-i) + 1024)/2048)"
abbrev pub move : ℤ → ℕ → ℕ → ℤ
move d s i = rounded (d *ℤ pos (weight_of s * (s - i)))

-- "added before, subtracted after, then limited to 0..top"
abbrev pub before : ℕ → ℕ → ℤ → ℕ → ℕ → ℕ
before top x d s i = limit top (pos x +ℤ move d s i)

abbrev pub after : ℕ → ℕ → ℤ → ℕ → ℕ → ℕ
after top x d s i = limit top (pos x -ℤ move d s i)
