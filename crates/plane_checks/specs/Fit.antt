-- What the checks of a plane's lists ask and look for, in inequalities.
-- Assumes nothing.
use Rattle.std.specs.Prelude.{List, [], ◌∷◌, Bool, ℕ, ◌*◌, ◌≤◌, eqb, leb, ltb, get_or}
use Rattle.laws.specs.Choose.{both, all}
use Rattle.laws.specs.Largest.{largest}
use Rattle.rules.specs.declared.settings.Plane.{Plane}
use Rattle.rules.specs.Lengths.{pair_of}
use Rattle.rules.specs.Segment.{has_room}
use Rattle.rules.specs.Plane.{Grid, cell_of, cell_good, index_at}
use Rattle.std.specs.declared.option.Option.{Option}
use Rattle.rules.specs.Refusals.{first, found_unless}
use Rattle.cell_edges.specs.Cells.{sized}

-- lists of at least count numbers
pub record CellsLong (count v h w t k : ℕ) : Type 0 where
  pub vedge : count ≤ v
  pub hedge : count ≤ h
  pub sqw : count ≤ w
  pub sqh : count ≤ t
  pub keep : count ≤ k

-- no number of the first count cells is too large, by the largest of each list
unfoldable pub small : ℕ → Grid → Bool
small count g =
    all
    (leb (largest g.vedge 0 count) 1
    ∷ leb (largest g.hedge 0 count) 1
    ∷ leb (largest g.sqw 0 count) 6
    ∷ leb (largest g.sqh 0 count) 6
    ∷ leb (largest g.keep 0 count) 1
    ∷ [])

-- the first of count cells that is not good
unfoldable pub bad_of : ℕ → Grid → Option ℕ
bad_of count g = first count (λ k. found_unless (cell_good g k) k)

-- whether it has room
unfoldable pub room_of : Plane → List ℕ → Bool → ℕ → ℕ → ℕ → Bool
room_of s sizes shortened dir r c =
    has_room (4 * s.cols) (4 * s.rows)
    (record { x = c * 4; y = r * 4; dir = dir; pair = pair_of (index_at s (sized sizes) dir r c) s.chroma shortened; q = 0; side = 0 })

-- a marked cell of a size index over 1: only such a cell's edge may lack room
unfoldable pub may_lack : Plane → List ℕ → List ℕ → ℕ → ℕ → Bool
may_lack s marks sizes r c = both (ltb 1 (get_or sizes (cell_of s r c) 0)) (eqb (get_or marks (cell_of s r c) 0) 1)
