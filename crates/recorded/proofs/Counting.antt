-- Counting the marked edges: the sum that the loops make, and that it is the rules' count.
-- Assumes nothing.
use mathlib.Core.Path.{◌≡◌, refl, sym, ap, ap₂, ◌∙◌}
use mathlib.Core.List.{List}
use Prim.Native.Nat.{ℕ, ◌+◌, ◌≤◌}
use native.Mathlib.Nat.{le_antisymm}
use native.Mathlib.Numerals.{add-one}
use borrow.Author.Rules.{rules}
use Rattle.laws.specs.Choose.{pick}
use Rattle.laws.specs.Sums.{sum}
use Rattle.rules.specs.declared.settings.Plane.{Plane}
use Rattle.rules.specs.Plane.{keeping, marks_of, is_edge}
use Rattle.rules.specs.Record.{edge_count}
use Rattle.recorded.specs.Count.{in_cell, in_row}

-- ---- a sum that a loop makes: none, one more, and the end

module _ (f : ℕ → ℕ) where
  pub sum_none : 0 ≡ sum 0 f
  unfolding sum
  sum_none = refl

  pub sum_more : (n : ℕ) {x y z : ℕ} → x ≡ sum n f → y ≡ f n → z ≡ x + y → z ≡ sum (n + 1) f
  unfolding sum
  sum_more n e g h = h ∙ ap₂ (λ (a b : ℕ). a + b) e g ∙ ap (λ (k : ℕ). sum k f) (sym (add-one n))

  pub sum_end : (k n : ℕ) {x : ℕ} → x ≡ sum k f → k ≤ n → n ≤ k → x ≡ sum n f
  sum_end k n e a b = e ∙ ap (λ (j : ℕ). sum j f) (le_antisymm a b)

-- ---- the rules' count looks at the marks alone

pub counted : (s : Plane) (v h w t q ts ks : List ℕ) → sum s.rows (λ r. in_row s v h r) ≡ edge_count s (keeping v h w t q ts ks)
unfolding edge_count in_row in_cell is_edge marks_of pick
counted s v h w t q ts ks = refl
