-- The tests of `keep_rectangle`, in their order 2, 3, 6.
-- Assumes nothing.
use Rattle.std.specs.Prelude.{List, [], ◌∷◌, ℕ, ◌*◌, leb, length}
use Rattle.rules.specs.declared.settings.Keep.{Keep}
use Rattle.rules.specs.TuGrid.{cells_ok}
use Rattle.rules.specs.Plane.{bad_keep}
use Rattle.checks.specs.Exactly.{ask, seek, Check, check}

abbrev pub keep_tests : Keep → List ℕ → List Check
keep_tests s keep =
    check 2 (ask (cells_ok s.cols s.rows))
    ∷ check 3 (ask (leb (s.rows * s.cols) (length keep)))
    ∷ check 6 (seek (bad_keep (s.rows * s.cols) keep))
    ∷ []
