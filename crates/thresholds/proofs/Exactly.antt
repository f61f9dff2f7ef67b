-- `combine_thresholds` gives each number exactly when document 01's test for it fails and those before it hold; and it accepts something.
-- Assumes nothing.
use mathlib.Core.Path.{◌≡◌, refl, ap, ◌∙◌}
use mathlib.Core.Bool.{true, false}
use mathlib.Core.List.{List, [], ◌∷◌}
use Prim.Native.Nat.{ℕ}
use lib.IntN.{ℤ, pos, neg_ℤ}
use lib.ListN.{replicate}
use Rattle.laws.specs.Choose.{pick, either, both}
use Rattle.rules.specs.Refusals.{Answer}
use Rattle.std.specs.declared.result.Result.TheVariants.{Ok, Err}
use Rattle.std.specs.declared.result.Result.{Result}
use Rattle.rules.specs.declared.refusals.Refusal.{Refusal}
use Rattle.rules.specs.declared.refusals.Thresholds.{Thresholds}
use Rattle.rules.specs.Numbers.{depth_ok, highest_of, offset_of, shift_of, in_range_z, delta_ok}
use Rattle.rules.specs.Refusals.{or_else, unless, found, sooner, first, found_unless}
use Rattle.rules.specs.Thresholds.{index_of, step_of, quant_of, lowered, side_of, both_of, q_threshold, side_threshold, step_good, bad_step, steps_check, deltas_check, thresholds_check, answer_thresholds, thresholds_of}
use Rattle.checks.specs.Exactly.{Exactly}
use Rattle.checks.proofs.Exactly.{exactly}
use Rattle.rules.specs.Refusals.{answered}
use Rattle.thresholds.specs.Exactly.{tests}

answered_is : (a : Answer) (q side : ℕ) → answered (answer_thresholds a q side) ≡ a
unfolding answer_thresholds
answered_is (Ok tt) q side = refl
answered_is (Err r) q side = refl

pub exactly_when : (curr prev depth : ℕ) (deltaq deltaside : ℤ) (steps : List ℕ) {r : Result Thresholds Refusal} → r ≡ thresholds_of curr prev deltaq deltaside depth steps → Exactly (answered r) (tests depth steps deltaq deltaside)
unfolding thresholds_of thresholds_check steps_check deltas_check
exactly_when curr prev depth deltaq deltaside steps e = exactly (tests depth steps deltaq deltaside) refl (ap answered e ∙ answered_is _ _ _)

-- step 0 is 64 and all others 4004: q is 7, and side of index 120 at depth 8 is 2
pub accepts : thresholds_of 120 120 (pos 0) (pos 0) 8 (64 ∷ replicate 351 4004) ≡ Ok (record { q = 7; side = 2 })
unfolding pick either both depth_ok highest_of offset_of shift_of in_range_z delta_ok or_else unless found sooner first found_unless index_of step_of quant_of lowered side_of both_of q_threshold side_threshold step_good bad_step steps_check deltas_check thresholds_check answer_thresholds thresholds_of
accepts = refl
