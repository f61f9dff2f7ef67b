-- Document 01's tests of `apply_edge_gated`, in their order 1, 2, 3, 5, 8.
-- Assumes nothing.
use Rattle.std.specs.Prelude.{List, [], ◌∷◌, ℕ, ◌*◌, length, ℤ}
use Rattle.rules.specs.declared.settings.Ccso.{Ccso}
use Rattle.rules.specs.Numbers.{depth_ok, top_of}
use Rattle.rules.specs.Refusals.{over_row}
use Rattle.rules.specs.Ccso.{target_width, target_height, ccso_sizes_ok, ccso_lengths_ok, ccso_settings_ok, bad_offset}
use Rattle.checks.specs.Exactly.{ask, seek, seek_any, and_then, Check, check}

abbrev pub tests : Ccso → List ℕ → List ℕ → List ℤ → List ℕ → List Check
tests s luma flags offsets t =
    check 1 (ask (depth_ok s.depth))
    ∷ check 2 (ask (ccso_sizes_ok s))
    ∷ check 3 (ask (ccso_lengths_ok s (length luma) (length t) (length flags) (length offsets)))
    ∷ check 5 (and_then (ask (ccso_settings_ok s)) (seek_any (bad_offset s offsets)))
    ∷ check 8 (and_then (seek (over_row (top_of s.depth) luma 0 (s.height * s.width))) (seek (over_row (top_of s.depth) t 0 (target_height s * target_width s))))
    ∷ []
