-- A call's tests with their numbers, in ticket 8's order: 15, 1 to 7, 14, 8.
-- Assumes nothing.
use Rattle.std.specs.Prelude.{not, List, [], ◌∷◌, ◌++◌, ℕ, take}
use Rattle.rules.specs.declared.settings.Plane.{Plane}
use Rattle.rules.specs.declared.rows.RowState.{RowState}
use Rattle.rules.specs.Plane.{Grid}
use Rattle.rules.specs.Rows.{counts_ok, over_new}
use Rattle.checks.specs.Exactly.{ask, seek, Check, check}
use Rattle.promises.specs.Exactly.{plane_tests}

-- "1 to 7 as in 01" are the first seven tests of a plane
abbrev pub rows_tests : Plane → List ℕ → Grid → RowState → ℕ → List ℕ → List Check
rows_tests s steps g st filled l =
    check 15 (ask (not st.spent))
    ∷ (take 7 (plane_tests s steps g l)
    ++ (check 14 (ask (counts_ok s.rows st.held filled))
    ∷ check 8 (seek (over_new s st.held filled l))
    ∷ []))
