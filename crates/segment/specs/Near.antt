-- What the code reads of an edge's lines: within the reach the samples of the plane, beyond it the last of them again.
-- Assumes nothing.
use Rattle.std.specs.Prelude.{ℕ, ◌+◌, ◌-◌, ◌*◌, ◌<◌, ◌≤◌, min, List, [], ◌∷◌, slice_index}
use Rattle.laws.specs.Loops.{each}
use Rattle.rules.specs.declared.edge.Line.{Line}

unfoldable pub near_before : List ℕ → ℕ → ℕ → ℕ → List ℕ
near_before l at step last = each 9 (λ k. slice_index l (at - step * min k last) ∷ [])

unfoldable pub near_after : List ℕ → ℕ → ℕ → ℕ → List ℕ
near_after l at step last = each 9 (λ k. slice_index l (at + step * min k last) ∷ [])

-- q0 at `at`, b samples before the edge and a after it
unfoldable pub near_line : List ℕ → ℕ → ℕ → ℕ → ℕ → Line
near_line l at step b a = record { p = near_before l (at - step) step (b - 1); q = near_after l at step (a - 1) }

unfoldable pub near_lines : List ℕ → ℕ → ℕ → ℕ → ℕ → ℕ → List Line
near_lines l at step line b a = each 4 (λ j. near_line l (at + j * line) step b a ∷ [])

-- one line's samples lie in the plane
pub record Span (at step b a size : ℕ) : Type 0 where
  pub before_3 : 3 ≤ b
  pub after_3 : 3 ≤ a
  pub low : step + step * (b - 1) ≤ at
  pub low_3 : 3 * step ≤ at
  pub high : at + step * (a - 1) < size
  pub high_3 : at + 2 * step < size
