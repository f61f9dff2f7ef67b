-- The published AC steps.
-- Assumes nothing.
use Rattle.std.specs.Prelude.{◌≡◌, List, [], ◌∷◌, ℕ, ◌-◌, ◌*◌, ◌/◌, ◌%◌, ◌^◌, ◌<◌, min, eqb, get_or}
use Rattle.laws.specs.Choose.{pick}
use Rattle.laws.specs.Loops.{each, filled}

-- entries 1 to 24
unfoldable pub octave : List ℕ
octave =
    40 ∷ 41 ∷ 43 ∷ 44 ∷ 45 ∷ 47 ∷ 48 ∷ 49 ∷ 51 ∷ 52 ∷ 54 ∷ 55 ∷ 57 ∷ 59 ∷ 60 ∷ 62 ∷ 64 ∷ 66 ∷ 68 ∷ 70 ∷ 72 ∷ 74 ∷ 76 ∷ 78 ∷ []

-- the same, doubled with every 24 further ones
unfoldable pub doubling : ℕ → ℕ
doubling j = get_or octave (j % 24) 0 * 2 ^ (j / 24)

-- entry k: the first one is 64, and the one at 255 serves those after it
unfoldable pub step_at : ℕ → ℕ
step_at k = pick (eqb k 0) 64 (doubling (min k 255 - 1))

unfoldable pub step_table : List ℕ
step_table = each 352 (λ k. step_at k ∷ [])

-- the first n entries of t are right
abbrev pub StepsTo : ℕ → List ℕ → Type 0
StepsTo n t = (k : ℕ) → k < n → get_or t k 0 ≡ step_at k

-- a list whose first 352 entries are the table
unfoldable pub tabled : List ℕ → List ℕ
tabled l = filled l step_at 352
