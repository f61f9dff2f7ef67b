-- Any two answers that the entry's contract allows are equal, and an accepted one stays within the segment's ranges.
-- Assumes nothing.
use mathlib.Core.Path.{◌≡◌, sym, ◌∙◌}
use mathlib.Core.Bool.{true}
use mathlib.Core.List.{List}
use Prim.Native.Nat.{ℕ, ◌≤◌}
use lib.IntN.{ℤ}
use Rattle.std.specs.declared.result.Result.TheVariants.{Ok}
use Rattle.std.specs.declared.result.Result.{Result}
use Rattle.rules.specs.declared.refusals.Refusal.{Refusal}
use Rattle.rules.specs.declared.refusals.Thresholds.{Thresholds}
use Rattle.rules.specs.Numbers.{depth_ok}
use Rattle.rules.specs.Thresholds.{index_of, steps_check, q_threshold, side_threshold, thresholds_of}
use Rattle.thresholds.proofs.Quants.{q_most}
use Rattle.thresholds.proofs.Sides.{side_most}
use Rattle.thresholds.proofs.TwoBlocks.{both_most}

pub unique : (curr prev depth : ℕ) (deltaq deltaside : ℤ) (steps : List ℕ) (r r' : Result Thresholds Refusal) → r ≡ thresholds_of curr prev deltaq deltaside depth steps → r' ≡ thresholds_of curr prev deltaq deltaside depth steps → r ≡ r'
unique curr prev depth deltaq deltaside steps r r' e f = e ∙ sym f

-- "q 0..2048, side 0..839"
module _ (depth curr prev : ℕ) (delta : ℤ) (ok : depth_ok depth ≡ true) where
  pub q_range : (steps : List ℕ) → steps_check steps ≡ Ok tt → q_threshold depth steps curr prev delta ≤ 2048
  unfolding q_threshold
  q_range steps good =
      both_most
      2048
      _
      _
      (q_most depth steps (index_of curr delta) ok good)
      (q_most depth steps (index_of prev delta) ok good)

  pub side_range : side_threshold depth curr prev delta ≤ 839
  unfolding side_threshold
  side_range = both_most 839 _ _ (side_most depth (index_of curr delta) ok) (side_most depth (index_of prev delta) ok)
