-- A plane's tests with document 01's numbers, in their order: 1, 2, 3, 4, 5, 6, 7, 8.
-- Assumes nothing.
use Rattle.std.specs.Prelude.{List, [], ◌∷◌, ℕ, length}
use Rattle.laws.specs.Choose.{both}
use Rattle.rules.specs.declared.settings.Plane.{Plane}
use Rattle.rules.specs.Numbers.{depth_ok, delta_ok}
use Rattle.rules.specs.Thresholds.{bad_step}
use Rattle.rules.specs.Plane.{Grid, plane_sizes_ok, plane_lengths_ok, bad_start, bad_cell, no_room, over_plane}
use Rattle.checks.specs.Exactly.{ask, seek, seek_any, and_then, Check, check}

abbrev pub plane_tests : Plane → List ℕ → Grid → List ℕ → List Check
plane_tests s steps g l =
    check 1 (ask (depth_ok s.depth))
    ∷ check 2 (ask (plane_sizes_ok s))
    ∷ check 3 (ask (plane_lengths_ok s g (length l)))
    ∷ check 4 (seek (bad_step steps))
    -- ticket 5: "5 also for a bad list"
    ∷ check 5 (and_then (ask (both (delta_ok s.deltaq) (delta_ok s.deltaside))) (seek_any (bad_start s.cols g.tiles)))
    ∷ check 6 (seek (bad_cell s g))
    ∷ check 7 (seek (no_room s g))
    ∷ check 8 (seek (over_plane s l))
    ∷ []
