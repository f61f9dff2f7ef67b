-- The published AC steps as C is told of them: too short a list, and one that takes the table.
-- Assumes nothing.
use mathlib.Core.Path.{◌≡◌, refl, ◌∙◌}
use mathlib.Core.List.{List}
use Prim.Native.Nat.{ℕ, ◌≤◌, ◌<◌}
use lib.ListN.{length}
use lib.IntN.{ℤ, pos, neg_ℤ}
use mir.Syntax.{w32}
use mir.Val.{to_z, of_z}
use Rattle.laws.specs.Choose.{is_le, not_le}
use Rattle.ac_steps.specs.Steps.{tabled}
use Rattle.rules.specs.declared.refusals.Refusal.TheVariants.{Length}
use Rattle.std.specs.declared.result.Result.TheVariants.{Ok, Err}
use Rattle.rules.specs.Refusals.{number_of}
use Rattle.checks.proofs.Checks.{unless_bad, unless_good, settle_refused, settle_accepted}
use Rattle.answers.proofs.Numbers.{held_minus, answer_refused, answer_accepted}
use Rattle.cside.specs.Steps.{steps_check, StepsTold}

module _ (l : List ℕ) where
  short : length l < 352 → Err Length ≡ steps_check l
  unfolding steps_check
  short h = unless_bad _ _ (not_le 352 (length l) h)

  pub too_short : {z : ℤ} → z ≡ neg_ℤ (pos (number_of Length)) → length l < 352 → StepsTold l (to_z w32 (of_z w32 z)) l
  too_short {z} f h = record { answer = held_minus z Length f ∙ answer_refused _ _ (short h); left_is = settle_refused _ _ _ (short h) }

  long : 352 ≤ length l → Ok tt ≡ steps_check l
  unfolding steps_check
  long h = unless_good _ _ (is_le 352 (length l) h)

  pub taken : {m : List ℕ} → 352 ≤ length l → m ≡ tabled l → StepsTold l (pos 0) m
  taken {m} h e = record { answer = answer_accepted _ _ (long h) refl; left_is = settle_accepted _ _ _ m (long h) e }
