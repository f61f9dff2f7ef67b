-- Document 01's tests of `build_tx_grid`, in their order 2, 3, 5, 9.
-- Assumes nothing.
use Rattle.std.specs.Prelude.{true, false, List, [], ◌∷◌, ℕ, ◌*◌, length}
use Rattle.laws.specs.Choose.{both, all}
use Rattle.rules.specs.declared.settings.TuGrid.{TuGrid}
use Rattle.rules.specs.Numbers.{subsampling_ok}
use Rattle.rules.specs.TuGrid.{Marks, cells_ok, cap_ok, fours_ok, bad_leaf, lists_long}
use Rattle.checks.specs.Exactly.{ask, seek, and_then, Check, check}

abbrev pub tx_tests : TuGrid → List ℕ → List ℕ → Marks → List ℕ → List Check
tx_tests s leaves skips g keep =
    check 2 (ask (both (cells_ok s.cols s.rows) (subsampling_ok s.ssx s.ssy)))
    ∷ check 3 (ask (all (lists_long (s.rows * s.cols) g keep ∷ fours_ok (length leaves) ∷ fours_ok (length skips) ∷ [])))
    ∷ check 5 (ask (both (cap_ok s.capw) (cap_ok s.caph)))
    ∷ check 9 (and_then (seek (bad_leaf false leaves)) (seek (bad_leaf true skips)))
    ∷ []
