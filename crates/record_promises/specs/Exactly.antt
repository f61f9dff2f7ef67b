-- A recorded plane's tests with their numbers, in their order: a plane's 1 to 8, then 10.
-- Assumes nothing.
use Rattle.std.specs.Prelude.{List, [], ◌∷◌, ◌++◌, ℕ, ◌+◌, ◌*◌, leb}
use Rattle.rules.specs.declared.settings.Plane.{Plane}
use Rattle.rules.specs.Plane.{Grid}
use Rattle.rules.specs.Record.{edge_count}
use Rattle.checks.specs.Exactly.{ask, Check, check}
use Rattle.promises.specs.Exactly.{plane_tests}

-- "room less than 5 + 10 times the marked edges (column 0 and row 0 left out), tested after 8"; n is the buffer's length
abbrev pub room_test : Plane → Grid → ℕ → Check
room_test s g n = check 10 (ask (leb (5 + 10 * edge_count s g) n))

abbrev pub recorded_tests : Plane → List ℕ → Grid → List ℕ → ℕ → List Check
recorded_tests s steps g l n = plane_tests s steps g l ++ (room_test s g n ∷ [])
