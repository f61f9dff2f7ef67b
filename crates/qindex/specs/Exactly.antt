-- Document 01's tests of `build_qindex_grid`, in their order 2, 3.
-- Assumes nothing.
use Rattle.std.specs.Prelude.{List, [], ◌∷◌, ℕ, ◌*◌, leb, length}
use Rattle.laws.specs.Choose.{all}
use Rattle.rules.specs.declared.settings.QindexGrid.{QindexGrid}
use Rattle.rules.specs.Numbers.{in_range, subsampling_ok}
use Rattle.rules.specs.TuGrid.{cells_ok}
use Rattle.checks.specs.Exactly.{ask, Check, check}

abbrev pub q_tests : QindexGrid → List ℕ → List ℕ → List Check
q_tests s sbq q =
    check 2 (ask (all (cells_ok s.cols s.rows ∷ subsampling_ok s.ssx s.ssy ∷ in_range 1 128 s.sbcols ∷ [])))
    ∷ check 3 (ask (all (leb 1 (length sbq) ∷ leb (s.rows * s.cols) (length q) ∷ [])))
    ∷ []
