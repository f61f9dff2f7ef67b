-- The entry at each of its ways out, and what an accepted answer says of the inputs.
-- Assumes nothing.
use mathlib.Core.Path.{◌≡◌, refl, sym, ◌∙◌}
use mathlib.Core.Bool.{Bool, true, false}
use mathlib.Core.List.{List}
use Prim.Native.Nat.{ℕ, ◌≤◌, ◌<◌}
use borrow.Author.Tests.{leb-true, eqb-true}
use lib.Dec.{eqb}
use lib.ListN.{get_or, length}
use lib.IntN.{ℤ}
use Rattle.laws.specs.Choose.{pick, both, both_parts}
use Rattle.rules.specs.declared.refusals.Refusal.{Refusal}
use Rattle.rules.specs.declared.refusals.Refusal.TheVariants.{Depth, Steps, Setting}
use Rattle.rules.specs.Refusals.{Answer}
use Rattle.std.specs.declared.result.Result.TheVariants.{Ok, Err}
use Rattle.std.specs.declared.option.Option.{Option}
use Rattle.std.specs.declared.option.Option.TheVariants.{Some, None}
use Rattle.rules.specs.Numbers.{depth_ok, delta_ok}
use Rattle.rules.specs.Refusals.{or_else, unless, first, found_unless}
use Rattle.rules.specs.Thresholds.{step_good, bad_step, steps_check, deltas_check, thresholds_check, answer_thresholds, q_threshold, side_threshold, thresholds_of}
use Rattle.checks.proofs.First.{at_not_nothing, nothing_all, unless_nothing}
use Rattle.checks.proofs.Checks.{found_bad_by, else_parts, unless_true, found_nothing}

-- refusal 4, by the place found
pub steps_bad : (steps : List ℕ) (f : Option ℕ) {k : ℕ} → f ≡ bad_step steps → f ≡ Some k → Err (Steps k) ≡ steps_check steps
unfolding steps_check
steps_bad steps f {k} e h = found_bad_by (bad_step steps) f Steps (Steps k) e h refl

-- a step table with no bad entry
none_bad : (steps : List ℕ) → bad_step steps ≡ None → (length steps ≡ 352) × (first 352 (λ k. found_unless (step_good steps k) k) ≡ None)
unfolding bad_step pick
none_bad steps e = go (eqb (length steps) 352) refl e
  where
    go : (t : Bool) → eqb (length steps) 352 ≡ t → pick t (first 352 (λ k. found_unless (step_good steps k) k)) (Some 0) ≡ None → (length steps ≡ 352) × (first 352 (λ k. found_unless (step_good steps k) k) ≡ None)
    go true q f = (eqb-true _ _ q, f)
    go false q f = at_not_nothing f

entry_good : (steps : List ℕ) → bad_step steps ≡ None → (k : ℕ) → k < 352 → step_good steps k ≡ true
entry_good steps e k h = unless_nothing _ k (nothing_all (λ k. found_unless (step_good steps k) k) 352 (none_bad steps e).1 k h)

-- an accepted step table
module _ (steps : List ℕ) (ok : steps_check steps ≡ Ok tt) where
  none : bad_step steps ≡ None
  unfolding steps_check
  none = found_nothing (bad_step steps) Steps ok

  pub steps_long : length steps ≡ 352
  steps_long = (none_bad steps none).0

  pub steps_most : (k : ℕ) → k < 352 → get_or steps k 0 ≤ 1048576
  unfolding step_good
  steps_most k h = leb-true _ _ (both_parts _ _ (entry_good steps none k h)).0

-- the entry's two ways out, and what its callees ask
module _ (curr prev depth : ℕ) (deltaq deltaside : ℤ) (steps : List ℕ) (a : Answer) (is : a ≡ thresholds_check depth steps deltaq deltaside) where
  pub entry_refused : {r : Refusal} → a ≡ Err r → Err r ≡ thresholds_of curr prev deltaq deltaside depth steps
  unfolding thresholds_of answer_thresholds
  entry_refused e = rw (sym is ∙ e)

  module _ (e : a ≡ Ok tt) where
    pub entry_both : {q side : ℕ} → q ≡ q_threshold depth steps curr prev deltaq → side ≡ side_threshold depth curr prev deltaside → Ok (record { q = q; side = side }) ≡ thresholds_of curr prev deltaq deltaside depth steps
    unfolding thresholds_of answer_thresholds
    entry_both p s = rw (sym is ∙ e, p, s)

    later : (unless (depth_ok depth) Depth ≡ Ok tt) × (or_else (steps_check steps) (deltas_check deltaq deltaside) ≡ Ok tt)
    unfolding thresholds_check
    later = else_parts _ _ (sym is ∙ e)

    deltas : both (delta_ok deltaq) (delta_ok deltaside) ≡ true
    unfolding deltas_check
    deltas = unless_true _ Setting (else_parts _ _ later.1).1

    pub depth_good : depth_ok depth ≡ true
    depth_good = unless_true _ Depth later.0

    pub steps_good : steps_check steps ≡ Ok tt
    steps_good = (else_parts _ _ later.1).0

    pub q_good : delta_ok deltaq ≡ true
    q_good = (both_parts _ _ deltas).0

    pub side_good : delta_ok deltaside ≡ true
    side_good = (both_parts _ _ deltas).1
