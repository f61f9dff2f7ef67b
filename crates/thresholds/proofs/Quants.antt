-- Laws of the AC step and of the q threshold: where the table is read, and how large they are.
-- Assumes nothing.
use mathlib.Core.Path.{◌≡◌, refl}
use mathlib.Core.Bool.{Bool, true, false}
use mathlib.Core.List.{List}
use Prim.Native.Nat.{ℕ, ◌≤◌, ◌<◌}
use native.Mathlib.Omega.{arith}
use borrow.Author.Tests.{eq-eqb, ne_eqb}
use lib.ListN.{get_or}
use lib.IntN.{ℤ, pos, negsuc}
use Rattle.laws.specs.Choose.{pick}
use Rattle.laws.specs.Whole.{Is, between}
use Rattle.laws.specs.declared.whole.Gap.{Gap}
use Rattle.std.specs.declared.result.Result.TheVariants.{Ok}
use Rattle.rules.specs.Numbers.{depth_ok, highest_of}
use Rattle.rules.specs.Thresholds.{is_zero, step_of, quant_of, steps_check}
use Rattle.rules.proofs.Depths.{by_depth}
use Rattle.thresholds.specs.Index.{whole}
use Rattle.thresholds.proofs.Accepted.{steps_most}
use Rattle.thresholds.proofs.Indices.{whole_is, between_high}

-- the highest qindex of a depth
pub record Highest (d : ℕ) : Type 0 where
  pub some : 1 ≤ highest_of d
  pub most : highest_of d ≤ 351

pub highest : (d : ℕ) → depth_ok d ≡ true → Highest d
unfolding highest_of pick
highest d ok = by_depth Highest (record { some = omega arith; most = omega arith }) (record { some = omega arith; most = omega arith }) (record { some = omega arith; most = omega arith }) d ok

-- index 0, and any other
is_zero_holds : (z : ℤ) {a b : ℕ} → Is z a b → a ≡ b → is_zero z ≡ true
is_zero_holds (pos n) h e = eq-eqb n 0 (omega arith)
is_zero_holds (negsuc n) h e = absurd (omega arith)

pub not_zero : (z : ℤ) {a b : ℕ} → Is z a b → (a ≡ b → ⊥) → is_zero z ≡ false
not_zero (pos n) h e = ne_eqb n 0 (λ q. e (omega arith))
not_zero (negsuc n) h e = refl

module _ (d : ℕ) (steps : List ℕ) (g : Gap) where
  pub step_zero : g.up ≡ g.down → 64 ≡ step_of d steps (whole g)
  unfolding step_of pick
  step_zero e = rw (is_zero_holds (whole g) (whole_is g) e)

  pub step_other : (g.up ≡ g.down → ⊥) → {h k : ℕ} → h ≡ highest_of d → k ≡ between 1 h (whole g) → get_or steps k 0 ≡ step_of d steps (whole g)
  unfolding step_of pick
  step_other e p q = rw (not_zero (whole g) (whole_is g) e, ← p, ← q)

pub place_within : (d : ℕ) (g : Gap) {low h k : ℕ} → low ≤ 1 → depth_ok d ≡ true → h ≡ highest_of d → k ≡ between low h (whole g) → k < 352
place_within d g {low} {h} l ok p q = let m = highest d ok in omega (arith, between_high low h (whole g) (omega arith))

-- every step of a good table, and so every q threshold, is limited
pub step_most : (d : ℕ) (steps : List ℕ) (z : ℤ) → depth_ok d ≡ true → steps_check steps ≡ Ok tt → step_of d steps z ≤ 1048576
unfolding step_of pick
step_most d steps z ok good = either (is_zero z)
  where
    within : between 1 (highest_of d) z < 352
    within = let m = highest d ok in omega (arith, between_high 1 (highest_of d) z m.some)

    either : (b : Bool) → pick b 64 (get_or steps (between 1 (highest_of d) z) 0) ≤ 1048576
    either true = omega arith
    either false = steps_most steps good (between 1 (highest_of d) z) within

pub quant_most : (a : ℕ) → a ≤ 1048576 → quant_of a ≤ 2048
unfolding quant_of
quant_most a h = omega arith

-- "q ≤ 2048": of any index
pub q_most : (d : ℕ) (steps : List ℕ) (z : ℤ) → depth_ok d ≡ true → steps_check steps ≡ Ok tt → quant_of (step_of d steps z) ≤ 2048
q_most d steps z ok good = quant_most (step_of d steps z) (step_most d steps z ok good)

pub q_small : (d : ℕ) (steps : List ℕ) (z : ℤ) → depth_ok d ≡ true → steps_check steps ≡ Ok tt → {a : ℕ} → a ≡ quant_of (step_of d steps z) → a ≤ 65535
q_small d steps z ok good e = omega (arith, q_most d steps z ok good)
