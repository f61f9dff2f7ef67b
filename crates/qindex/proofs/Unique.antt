-- Two results that the entry's promise allows are equal.
-- Assumes nothing.
use mathlib.Core.Path.{◌≡◌, sym, ◌∙◌}
use mathlib.Core.List.{List}
use Prim.Native.Nat.{ℕ}
use Rattle.rules.specs.declared.settings.QindexGrid.{QindexGrid}
use Rattle.rules.specs.Refusals.{Answer}
use Rattle.rules.specs.QindexGrid.{q_grid_check, q_grid_after}

pub q_unique : (s : QindexGrid) (sbq q : List ℕ) {r r' : Answer} {q1 q2 : List ℕ} → (r ≡ q_grid_check s sbq q) × (q1 ≡ q_grid_after s sbq q) → (r' ≡ q_grid_check s sbq q) × (q2 ≡ q_grid_after s sbq q) → (r ≡ r') × (q1 ≡ q2)
q_unique s sbq q a b = (a.0 ∙ sym b.0, a.1 ∙ sym b.1)
