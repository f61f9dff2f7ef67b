-- What the entry of keep marks over a rectangle tells C.
-- Assumes nothing.
use Rattle.std.specs.Prelude.{Bool, List, [], ◌∷◌, ℕ, ℤ}
use Rattle.laws.specs.Choose.{all}
use Rattle.rules.specs.declared.refusals.Refusal.TheVariants.{Size}
use Rattle.rules.specs.Refusals.{Answer}
use Rattle.rules.specs.Refusals.{or_else, unless}
use Rattle.rules.specs.Keep.{keep_check, kept_of}
use Rattle.answers.specs.Told.{listed, Reported}
use Rattle.numbers.specs.Settings.{number_at, is_count, rectangle_of}

-- the rectangle's first row and column, and how many rows and columns it has, are not negative
unfoldable pub rectangle_ok : List ℤ → Bool
rectangle_ok settings = all (is_count (number_at settings 2) ∷ is_count (number_at settings 3) ∷ is_count (number_at settings 4) ∷ is_count (number_at settings 5) ∷ [])

-- a negative one is refused by 2; any other is taken, however large, since the rectangle is cut to the plane
unfoldable pub rectangle_check : List ℤ → Answer
rectangle_check settings = listed 6 settings (unless (rectangle_ok settings) Size)

unfoldable pub c_rectangle_check : List ℤ → List ℕ → Answer
c_rectangle_check settings k = or_else (rectangle_check settings) (keep_check (rectangle_of settings) k)

-- what C is told of keep marks k: the answer r and the keep marks n
abbrev pub RectangleTold : List ℤ → List ℕ → List ℕ → ℤ → List ℕ → List ℕ → Type 0
RectangleTold settings k place r n placed = Reported (c_rectangle_check settings k) k (kept_of (rectangle_of settings) k) place r n placed
