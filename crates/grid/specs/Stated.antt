-- All that an entry of the TU grid alone states.
-- Assumes nothing.
use Rattle.std.specs.Prelude.{◌≡◌, List, ℕ}
use Rattle.rules.specs.declared.settings.TuGrid.{TuGrid}
use Rattle.rules.specs.Refusals.{Answer}
use Rattle.rules.specs.TuGrid.{Marks, tx_grid_check, tx_grid_after, cleared_after}

-- its answer a, the four lists m and the keep marks n afterwards, of lists g and keep marks k
pub record Stated (s : TuGrid) (leaves skips : List ℕ) (g : Marks) (k : List ℕ) (a : Answer) (m : Marks) (n : List ℕ) : Type 0 where
  pub answer : a ≡ tx_grid_check s leaves skips g k
  pub lists : m ≡ tx_grid_after s leaves skips g k
  pub cleared : n ≡ cleared_after s leaves skips g k
