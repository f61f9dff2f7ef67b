-- Ticket 7, "a new entry sets it over a rectangle of cells, cut to the plane, an empty rectangle setting none": which cells those are, the checks, and the keep marks afterwards.
-- Assumes nothing.
use Rattle.std.specs.Prelude.{Bool, List, [], ◌∷◌, ℕ, ◌+◌, ◌*◌, ◌/◌, ◌%◌, leb, ltb, get_or, length}
use Rattle.laws.specs.Choose.{pick, all}
use Rattle.laws.specs.Loops.{filled}
use Rattle.rules.specs.declared.settings.Keep.{Keep}
use Rattle.rules.specs.declared.refusals.Refusal.TheVariants.{Size, Length, Cell}
use Rattle.rules.specs.Refusals.{Answer}
use Rattle.rules.specs.Refusals.{or_else, unless, found, settle}
use Rattle.rules.specs.Plane.{bad_keep}
use Rattle.rules.specs.TuGrid.{cells_ok}

-- ---- the marks

-- the cell of row r and column c lies in the rectangle: none does where it has no rows or no columns
unfoldable pub in_rectangle : Keep → ℕ → ℕ → Bool
in_rectangle s r c = all (leb s.row r ∷ ltb r (s.row + s.h) ∷ leb s.col c ∷ ltb c (s.col + s.w) ∷ [])

-- the mark of the plane's cell k afterwards, cells counted row by row: 1 in the rectangle, and else as it was
unfoldable pub kept_at : Keep → List ℕ → ℕ → ℕ
kept_at s keep k = pick (in_rectangle s (k / s.cols) (k % s.cols)) 1 (get_or keep k 0)

-- "cut to the plane": of every cell of the plane, and of no other entry
unfoldable pub kept_of : Keep → List ℕ → List ℕ
kept_of s keep = filled keep (kept_at s keep) (s.rows * s.cols)

-- ---- the checks, in the order 2, 3, 6

unfoldable pub keep_check : Keep → List ℕ → Answer
keep_check s keep =
    or_else (unless (cells_ok s.cols s.rows) Size)
    (or_else (unless (leb (s.rows * s.cols) (length keep)) Length)
    (found (bad_keep (s.rows * s.cols) keep) Cell))

-- the list afterwards
unfoldable pub keep_after : Keep → List ℕ → List ℕ
keep_after s keep = settle (keep_check s keep) keep (kept_of s keep)
