-- Document 01's tests of `filter_lone`, in their order 1, 2, 3, 5, 7, 8.
-- Assumes nothing.
use Rattle.std.specs.Prelude.{List, [], ◌∷◌, ℕ, ◌*◌, leb, length}
use Rattle.rules.specs.declared.settings.Lone.{Lone}
use Rattle.rules.specs.Numbers.{depth_ok, top_of}
use Rattle.rules.specs.Segment.{has_room}
use Rattle.rules.specs.Lone.{edge_of, sizes_ok, settings_ok, over_edge}
use Rattle.checks.specs.Exactly.{ask, seek, Check, check}

abbrev pub tests : Lone → List ℕ → List Check
tests s l =
    check 1 (ask (depth_ok s.depth))
    ∷ check 2 (ask (sizes_ok s))
    ∷ check 3 (ask (leb (s.rows * s.stride) (length l)))
    ∷ check 5 (ask (settings_ok s))
    ∷ check 7 (ask (has_room s.columns s.rows (edge_of s)))
    ∷ check 8 (seek (over_edge (top_of s.depth) s.stride (edge_of s) l))
    ∷ []
