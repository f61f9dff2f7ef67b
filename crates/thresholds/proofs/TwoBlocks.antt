-- The thresholds of two blocks joined, one law for q and side.
-- Assumes nothing.
use mathlib.Core.Path.{◌≡◌, ap, ◌∙◌}
use mathlib.Core.Bool.{Bool, true, false}
use mathlib.Core.List.{List}
use Prim.Native.Nat.{ℕ, ◌+◌, ◌/◌, ◌≤◌}
use native.Mathlib.Omega.{arith}
use lib.IntN.{ℤ}
use lib.Dec.{eqb}
use Rattle.laws.specs.Choose.{pick}
use Rattle.laws.specs.declared.whole.Gap.{Gap}
use Rattle.rules.specs.Thresholds.{index_of, both_of, quant_of, step_of, side_of, q_threshold, side_threshold}
use Rattle.thresholds.specs.Index.{whole, IndexIs}

-- a threshold f of each block's index, the delta read from where the machine held it
pub joined : (f : ℤ → ℕ) (curr prev : ℕ) (delta : ℤ) {held : ℤ} {g h : Gap} {a b r : ℕ} → held ≡ delta → IndexIs curr held g → IndexIs prev held h → a ≡ f (whole g) → b ≡ f (whole h) → r ≡ both_of a b → r ≡ both_of (f (index_of curr delta)) (f (index_of prev delta))
joined f curr prev delta e i j p q s =
    let p' = p ∙ ap f (i.is ∙ ap (index_of curr) e) in
    let q' = q ∙ ap f (j.is ∙ ap (index_of prev) e) in
    s ∙ cc

module _ (d curr prev : ℕ) (delta : ℤ) {held : ℤ} {g h : Gap} {a b r : ℕ} (e : held ≡ delta) (i : IndexIs curr held g) (j : IndexIs prev held h) where
  pub q_joined : (steps : List ℕ) → a ≡ quant_of (step_of d steps (whole g)) → b ≡ quant_of (step_of d steps (whole h)) → r ≡ both_of a b → r ≡ q_threshold d steps curr prev delta
  unfolding q_threshold
  q_joined steps = joined (λ i. quant_of (step_of d steps i)) curr prev delta e i j

  pub side_joined : a ≡ side_of d (whole g) → b ≡ side_of d (whole h) → r ≡ both_of a b → r ≡ side_threshold d curr prev delta
  unfolding side_threshold
  side_joined = joined (side_of d) curr prev delta e i j

-- what bounds both bounds the two joined
pub both_most : (most a b : ℕ) → a ≤ most → b ≤ most → both_of a b ≤ most
unfolding both_of pick
both_most most a b h k = go (eqb a 0) (eqb b 0)
  where
    go : (s t : Bool) → pick s b (pick t a ((a + b + 1) / 2)) ≤ most
    go true t = k
    go false true = h
    go false false = omega arith
