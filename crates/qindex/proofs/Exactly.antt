-- The qindex grid gives each number exactly when document 01's test for it fails and those before it hold; and it accepts something.
-- Assumes nothing.
use mathlib.Core.Path.{◌≡◌, refl}
use mathlib.Core.List.{List, [], ◌∷◌}
use Prim.Native.Nat.{ℕ}
use Rattle.laws.specs.Choose.{both, all}
use Rattle.rules.specs.declared.settings.QindexGrid.{QindexGrid}
use Rattle.rules.specs.Refusals.{Answer}
use Rattle.std.specs.declared.result.Result.TheVariants.{Ok}
use Rattle.rules.specs.Numbers.{in_range, subsampling_ok}
use Rattle.rules.specs.Refusals.{or_else, unless}
use Rattle.rules.specs.TuGrid.{cells_ok}
use Rattle.rules.specs.QindexGrid.{q_grid_check}
use Rattle.checks.specs.Exactly.{Exactly}
use Rattle.checks.proofs.Exactly.{exactly}
use Rattle.qindex.specs.Exactly.{q_tests}

pub q_exactly : (s : QindexGrid) (sbq q : List ℕ) {r : Answer} → r ≡ q_grid_check s sbq q → Exactly r (q_tests s sbq q)
unfolding q_grid_check
q_exactly s sbq q e = exactly (q_tests s sbq q) refl e

-- two cells of one superblock
pub q_accepts : q_grid_check record { cols = 2; rows = 1; ssx = 0; ssy = 0; sbcols = 1 } (100 ∷ []) (0 ∷ 0 ∷ []) ≡ Ok tt
unfolding both all in_range subsampling_ok or_else unless cells_ok q_grid_check
q_accepts = refl
