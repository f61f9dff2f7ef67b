-- The published AC steps as C asks for them: a list that takes the table, and keeps its entries beyond it.
-- Assumes nothing.
use Rattle.std.specs.Prelude.{◌≡◌, List, ℕ, leb, length, ℤ}
use Rattle.ac_steps.specs.Steps.{tabled}
use Rattle.rules.specs.declared.refusals.Refusal.TheVariants.{Length}
use Rattle.rules.specs.Refusals.{Answer}
use Rattle.rules.specs.Refusals.{unless, settle}
use Rattle.rules.specs.CSide.{c_answer}

-- a list that is shorter than the table is refused by 3
unfoldable pub steps_check : List ℕ → Answer
steps_check l = unless (leb 352 (length l)) Length

pub record StepsTold (l : List ℕ) (n : ℤ) (left : List ℕ) : Type 0 where
  pub answer : n ≡ c_answer (steps_check l) 0
  pub left_is : left ≡ settle (steps_check l) l (tabled l)
