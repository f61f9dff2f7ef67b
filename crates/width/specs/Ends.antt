-- What the inner contracts of the width choice speak of: the two lines that decide, and the three distances.
-- Assumes nothing.
use Rattle.std.specs.Prelude.{◌≡◌, List, [], ◌∷◌, ℕ, ◌+◌, ◌≤◌, ◌%◌, get_or}
use Rattle.rules.specs.declared.edge.Line.{Line}
use Rattle.rules.specs.Width.{slope_of}

-- four lines with a as line 0 and b as line 3; "only lines 0 and 3 decide"
abbrev pub ends : Line → Line → List Line
ends a b = a ∷ a ∷ b ∷ b ∷ []

-- one side of both lines: twice the ramp with k, but for the rounding
abbrev pub slopes_of : ℕ → List ℕ → List ℕ → ℕ
slopes_of k a b = slope_of k (get_or a 0 0) (get_or a 1 0) (get_or a k 0) + slope_of k (get_or b 0 0) (get_or b 1 0) (get_or b k 0)

-- 4, 6 or 8
pub record Distance (d : ℕ) : Type 0 where
  pub least : 4 ≤ d
  pub most : d ≤ 8
  pub even : d % 2 ≡ 0
