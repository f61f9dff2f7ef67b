-- The TU grid gives each number exactly when document 01's test for it fails and those before it hold; and it accepts something.
-- Assumes nothing.
use mathlib.Core.Path.{◌≡◌, refl}
use mathlib.Core.List.{List, [], ◌∷◌}
use Prim.Native.Nat.{ℕ}
use Rattle.laws.specs.Choose.{pick, either, both, all}
use Rattle.rules.specs.declared.settings.TuGrid.{TuGrid}
use Rattle.rules.specs.Refusals.{Answer}
use Rattle.std.specs.declared.result.Result.TheVariants.{Ok}
use Rattle.rules.specs.Numbers.{in_range, subsampling_ok}
use Rattle.rules.specs.Refusals.{or_else, unless, found, sooner, first, found_unless}
use Rattle.rules.specs.TuGrid.{Marks, marks, flag_of, bare_of, is_size, cells_ok, cap_ok, fours_ok, leaf_good, leaf_good_at, bad_leaf, lists_long, tx_grid_check}
use Rattle.checks.specs.Exactly.{Exactly}
use Rattle.checks.proofs.Exactly.{exactly}
use Rattle.grid.specs.Exactly.{tx_tests}

pub tx_exactly : (s : TuGrid) (leaves skips : List ℕ) (g : Marks) (keep : List ℕ) {r : Answer} → r ≡ tx_grid_check s leaves skips g keep → Exactly r (tx_tests s leaves skips g keep)
unfolding tx_grid_check
tx_exactly s leaves skips g keep e = exactly (tx_tests s leaves skips g keep) refl e

abbrev two : List ℕ
two = 0 ∷ 0 ∷ []

-- two cells in a row, one under a leaf and one under a skip leaf, with keep marks that are not tested
pub tx_accepts : tx_grid_check record { cols = 2; rows = 1; ssx = 0; ssy = 0; capw = 8; caph = 8 } (0 ∷ 0 ∷ 1 ∷ 1 ∷ []) (0 ∷ 1 ∷ 1 ∷ 1 ∷ []) (marks two two two two) (1 ∷ 2 ∷ []) ≡ Ok tt
unfolding pick either both all in_range subsampling_ok or_else unless found sooner first found_unless flag_of bare_of is_size cells_ok cap_ok fours_ok leaf_good leaf_good_at bad_leaf lists_long tx_grid_check
tx_accepts = refl
