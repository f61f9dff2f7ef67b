-- All that the entry states.
-- Assumes nothing.
use Rattle.std.specs.Prelude.{◌≡◌, List, ℕ, length}
use Rattle.rules.specs.declared.settings.Plane.{Plane}
use Rattle.std.specs.declared.result.Result.{Result}
use Rattle.rules.specs.declared.counts.Visited.{Visited}
use Rattle.rules.specs.declared.refusals.Refusal.{Refusal}
use Rattle.rules.specs.Refusals.{changed_in, counted, length_told, stored_in}
use Rattle.rules.specs.Plane.{Grid}
use Rattle.rules.specs.Record.{recorded_answer, recorded_plane, recorded_buffer, recorded_stored, recorded_changed}

-- its answer a with the counts, the plane m and the buffer c afterwards, of a plane l and a buffer b
pub record Stated (s : Plane) (steps : List ℕ) (g : Grid) (l b : List ℕ) (a : Result Visited Refusal) (m c : List ℕ) : Type 0 where
  pub answer : length_told a ≡ recorded_answer s steps g l (length b)
  pub plane : m ≡ recorded_plane s steps g l (length b)
  pub buffer : c ≡ recorded_buffer s steps g l b
  pub stored : stored_in (counted a) ≡ recorded_stored s steps g l (length b)
  pub changed : changed_in (counted a) ≡ recorded_changed s steps g l (length b)
