-- The grid from records gives each number exactly when document 01's test for it, of the records' numbers, fails and those before it hold; and it accepts something.
-- Assumes nothing.
use mathlib.Core.Path.{◌≡◌}
use mathlib.Core.List.{List, [], ◌∷◌}
use Prim.Native.Nat.{ℕ}
use Rattle.rules.specs.declared.settings.TuGrid.{TuGrid}
use Rattle.rules.specs.Refusals.{Answer}
use Rattle.std.specs.declared.result.Result.TheVariants.{Ok}
use Rattle.rules.specs.TuGrid.{Marks, marks, tx_grid_check}
use Rattle.checks.specs.Exactly.{Exactly}
use Rattle.grid.specs.Exactly.{tx_tests}
use Rattle.grid.proofs.Exactly.{tx_exactly, tx_accepts}
use Rattle.leaves.specs.declared.records.Leaf.{Leaf}
use Rattle.leaves.specs.Records.{flat}

pub record_exactly : (s : TuGrid) (ls skips : List Leaf) (g : Marks) (keep : List ℕ) {r : Answer} → r ≡ tx_grid_check s (flat ls) (flat skips) g keep → Exactly r (tx_tests s (flat ls) (flat skips) g keep)
record_exactly s ls skips g keep e = tx_exactly s (flat ls) (flat skips) g keep e

pub record_accepts : tx_grid_check record { cols = 2; rows = 1; ssx = 0; ssy = 0; capw = 8; caph = 8 } (flat (record { row = 0; col = 0; w = 1; h = 1 } ∷ [])) (flat (record { row = 0; col = 1; w = 1; h = 1 } ∷ [])) (marks (0 ∷ 0 ∷ []) (0 ∷ 0 ∷ []) (0 ∷ 0 ∷ []) (0 ∷ 0 ∷ [])) (1 ∷ 2 ∷ []) ≡ Ok tt
unfolding flat
record_accepts = tx_accepts
