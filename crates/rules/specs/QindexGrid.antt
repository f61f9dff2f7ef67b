-- Document 01, "Qindex grid": each cell's qindex from those of the superblocks.
-- Assumes nothing.
use Rattle.std.specs.Prelude.{Bool, true, false, List, [], ◌∷◌, ℕ, ◌+◌, ◌*◌, ◌-◌, ◌/◌, min, leb, get_or, length, set}
use Rattle.laws.specs.Choose.{all}
use Rattle.laws.specs.Loops.{turns}
use Rattle.rules.specs.declared.settings.QindexGrid.{QindexGrid}
use Rattle.rules.specs.declared.refusals.Refusal.TheVariants.{Size, Length}
use Rattle.rules.specs.Refusals.{Answer}
use Rattle.rules.specs.Numbers.{in_range, subsampling_ok, up}
use Rattle.rules.specs.Refusals.{or_else, unless, settle}
use Rattle.rules.specs.TuGrid.{cells_ok}

-- "Cell (r,c) takes entry min(R·sb_cols + C, last), R and C being (r << ssy)/16 and (c << ssx)/16."
unfoldable pub superblock_of : QindexGrid → ℕ → ℕ → ℕ → ℕ
superblock_of s count r c = min (up s.ssy r / 16 * s.sbcols + up s.ssx c / 16) (count - 1)

unfoldable pub q_cell : QindexGrid → List ℕ → ℕ → ℕ → List ℕ → List ℕ
q_cell s sbq r c q = set q (r * s.cols + c) (get_or sbq (superblock_of s (length sbq) r c) 0)

unfoldable pub q_row : QindexGrid → List ℕ → ℕ → List ℕ → List ℕ
q_row s sbq r q = turns s.cols (λ c. q_cell s sbq r c) q

unfoldable pub q_grid_of : QindexGrid → List ℕ → List ℕ → List ℕ
q_grid_of s sbq q = turns s.rows (λ r. q_row s sbq r) q

-- "qindex: sb_cols 1..128, at least one entry"; order 2, 3
unfoldable pub q_grid_check : QindexGrid → List ℕ → List ℕ → Answer
q_grid_check s sbq q =
    or_else (unless (all (cells_ok s.cols s.rows ∷ subsampling_ok s.ssx s.ssy ∷ in_range 1 128 s.sbcols ∷ [])) Size)
    (unless (all (leb 1 (length sbq) ∷ leb (s.rows * s.cols) (length q) ∷ [])) Length)

-- the list afterwards
unfoldable pub q_grid_after : QindexGrid → List ℕ → List ℕ → List ℕ
q_grid_after s sbq q = settle (q_grid_check s sbq q) q (q_grid_of s sbq q)
