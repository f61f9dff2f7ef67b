-- What the lone segment answers, and what it leaves of a plane l.
-- Assumes nothing.
use Rattle.std.specs.Prelude.{◌≡◌, List, ℕ, Result, Ok, Err}
use Rattle.rules.specs.declared.settings.Lone.{Lone}
use Rattle.rules.specs.declared.refusals.Refusal.{Refusal}
use Rattle.rules.specs.declared.refusals.Filtered.{Filtered}
use Rattle.rules.specs.Lone.{lone_width, lone_stored, lone_changed, lone_plane}

-- the width, or the refusal
abbrev pub width_in : Result Filtered Refusal → Result ℕ Refusal
width_in (Ok f) = Ok f.width
width_in (Err r) = Err r

-- ticket 4: both counts, none where it is refused
abbrev pub stored_in : Result Filtered Refusal → ℕ
stored_in (Ok f) = f.stored
stored_in (Err r) = 0

abbrev pub changed_in : Result Filtered Refusal → ℕ
changed_in (Ok f) = f.changed
changed_in (Err r) = 0

pub record Stated (s : Lone) (l : List ℕ) (r : Result Filtered Refusal) (m : List ℕ) : Type 0 where
  pub width : width_in r ≡ lone_width s l
  pub stored : stored_in r ≡ lone_stored s l
  pub changed : changed_in r ≡ lone_changed s l
  pub plane : m ≡ lone_plane s l
