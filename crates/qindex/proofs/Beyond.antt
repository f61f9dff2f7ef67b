-- "what lies beyond is kept": an entry past the plane's cells is as it was lent.
-- Assumes nothing.
use mathlib.Core.Path.{◌≡◌, refl, ◌∙◌}
use mathlib.Core.List.{List}
use Prim.Native.Nat.{ℕ, ◌+◌, ◌*◌, ◌≤◌}
use native.Mathlib.Omega.{arith}
use lib.ListN.{get_or}
use lib.Seq.{get_or-set_other}
use Rattle.laws.specs.Loops.{turns_keep}
use Rattle.rules.specs.declared.settings.QindexGrid.{QindexGrid}
use Rattle.rules.specs.QindexGrid.{q_cell, q_row, q_grid_of}
use Rattle.tiles.proofs.Places.{place_below}

pub q_beyond : (s : QindexGrid) (sbq q : List ℕ) (i : ℕ) → s.rows * s.cols ≤ i → get_or (q_grid_of s sbq q) i 0 ≡ get_or q i 0
unfolding q_grid_of q_row q_cell
q_beyond s sbq q i far =
    turns_keep _ q (λ l. get_or l i 0 ≡ get_or q i 0) s.rows refl (λ r y hr p. turns_keep _ y (λ l. get_or l i 0 ≡ get_or q i 0) s.cols p (λ c z hc e. get_or-set_other z (r * s.cols + c) i _ 0 (λ p. omega (arith, place_below r s.rows c s.cols hr hc)) ∙ e))
