-- Ticket 2's tests of `replay_plane`, with ticket 7's, in their order 1, 2, 3, 11, 12, 13, 6, 7, 8.
-- Assumes nothing.
use Rattle.std.specs.Prelude.{ℕ, ◌*◌, List, [], ◌∷◌, ◌++◌, length}
use Rattle.rules.specs.declared.settings.Replay.{Replay}
use Rattle.rules.specs.Numbers.{depth_ok}
use Rattle.rules.specs.Plane.{bad_keep}
use Rattle.rules.specs.Replay.{replay_sizes_ok, replay_long, header_ok, cut_entry, bad_entry, no_room_in, over_replay}
use Rattle.checks.specs.Exactly.{ask, seek, Check, check}

abbrev pub entry_tests : List ℕ → List Check
entry_tests bytes = check 12 (seek (cut_entry bytes)) ∷ check 13 (seek (bad_entry bytes)) ∷ []

abbrev pub room_tests : Replay → List ℕ → List ℕ → List ℕ → List Check
room_tests s bytes keep l = check 6 (seek (bad_keep (s.rows * s.cols) keep)) ∷ check 7 (seek (no_room_in s bytes)) ∷ check 8 (seek (over_replay s l)) ∷ []

abbrev pub replay_tests : Replay → List ℕ → List ℕ → List ℕ → List Check
replay_tests s bytes keep l =
    check 1 (ask (depth_ok s.depth))
    ∷ check 2 (ask (replay_sizes_ok s))
    ∷ check 3 (ask (replay_long s (length keep) (length l)))
    ∷ check 11 (ask (header_ok bytes))
    ∷ (entry_tests bytes ++ room_tests s bytes keep l)
