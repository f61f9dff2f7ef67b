-- What the entry states: its answer, and the target afterwards.
-- Assumes nothing.
use Rattle.std.specs.Prelude.{◌≡◌, List, ℕ, ℤ}
use Rattle.rules.specs.declared.settings.Ccso.{Ccso}
use Rattle.rules.specs.Refusals.{Answer}
use Rattle.rules.specs.Ccso.{ccso_check, ccso_after}

pub record Stated (s : Ccso) (luma flags : List ℕ) (offsets : List ℤ) (lent : List ℕ) (r : Answer) (left : List ℕ) : Type 0 where
  pub answer : r ≡ ccso_check s luma flags offsets lent
  pub target : left ≡ ccso_after s luma flags offsets lent
