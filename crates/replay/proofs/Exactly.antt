-- `replay_plane` gives each number exactly when ticket 2's test for it fails and those before it hold; and it accepts a record with no entry and one with an edge.
-- Assumes nothing.
use Rattle.std.proofs.Common.{◌≡◌, ℕ, ◌*◌, List, [], ◌∷◌, ◌++◌, length, refl, ap, ◌∙◌}
use Rattle.rules.specs.declared.settings.Replay.{Replay}
use Rattle.rules.specs.Refusals.{Answer}
use Rattle.std.specs.declared.result.Result.TheVariants.{Ok}
use Rattle.std.specs.declared.result.Result.{Result}
use Rattle.rules.specs.declared.counts.Counts.{Counts}
use Rattle.rules.specs.declared.refusals.Refusal.{Refusal}
use Rattle.rules.specs.Refusals.{answered}
use Rattle.rules.specs.declared.refusals.Refusal.TheVariants.{Depth, Size, Length}
use Rattle.rules.specs.Numbers.{depth_ok}
use Rattle.rules.specs.Refusals.{or_else, unless}
use Rattle.rules.specs.Record.{header}
use Rattle.rules.specs.Replay.{replay_sizes_ok, replay_long, header_ok, record_check, replay_check}
use Rattle.rules.specs.Figures.{flat}
use Rattle.rules.specs.Orders.{again, entry, orders}
use Rattle.checks.specs.Exactly.{ask, check, chain, Exactly}
use Rattle.checks.proofs.Exactly.{exactly, chain_joined}
use Rattle.replay.specs.Fit.{Replayed}
use Rattle.replay.specs.Exactly.{entry_tests, room_tests, replay_tests}

in_turn : (s : Replay) (bytes keep l : List ℕ) → replay_check s bytes keep l ≡ chain (replay_tests s bytes keep l)
unfolding replay_check record_check
in_turn s bytes keep l =
    ap
    (λ (a : Answer). or_else (unless (depth_ok s.depth) Depth) (or_else (unless (replay_sizes_ok s) Size) (or_else (unless (replay_long s (length keep) (length l)) Length) a)))
    (chain_joined (check 11 (ask (header_ok bytes))) (entry_tests bytes) (room_tests s bytes keep l))

pub replay_exactly : (s : Replay) (bytes keep l : List ℕ) {a : Answer} → a ≡ replay_check s bytes keep l → Exactly a (replay_tests s bytes keep l)
replay_exactly s bytes keep l e = exactly (replay_tests s bytes keep l) refl (e ∙ in_turn s bytes keep l)

-- of whatever the entry may answer
pub replayed_exactly : (s : Replay) (bytes keep l : List ℕ) {a : Result Counts Refusal} {m : List ℕ} → Replayed s bytes keep l a m → Exactly (answered a) (replay_tests s bytes keep l)
replayed_exactly s bytes keep l done = replay_exactly s bytes keep l done.answer

-- the header alone, and the middle edge of 100 | 108
pub accepts_none : replay_check (again 8 4) header (0 ∷ 0 ∷ 0 ∷ 0 ∷ []) (flat 100 108) ≡ Ok tt
accepts_none = orders.replay_bare

pub accepts_edge : replay_check (again 8 4) (header ++ entry 8 0 3) (0 ∷ 0 ∷ 0 ∷ 0 ∷ []) (flat 100 108) ≡ Ok tt
accepts_edge = orders.replay_good
