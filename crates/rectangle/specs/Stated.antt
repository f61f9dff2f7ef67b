-- All that the entry states.
-- Assumes nothing.
use Rattle.std.specs.Prelude.{◌≡◌, List, ℕ}
use Rattle.rules.specs.declared.settings.Keep.{Keep}
use Rattle.rules.specs.Refusals.{Answer}
use Rattle.rules.specs.Keep.{keep_check, keep_after}

-- its answer a and the marks n afterwards, of marks k
pub record Stated (s : Keep) (k : List ℕ) (a : Answer) (n : List ℕ) : Type 0 where
  pub answer : a ≡ keep_check s k
  pub marks : n ≡ keep_after s k
