-- Both thresholds as C is answered them: from the entry's answer on the steps that the bytes hold.
-- Assumes nothing.
use mathlib.Core.Path.{◌≡◌, refl, sym, ap₂, ◌∙◌}
use mathlib.Core.Bool.{Bool, true, false, not}
use mathlib.Core.List.{List}
use Prim.Native.Nat.{ℕ, ◌+◌, ◌*◌, ◌≤◌}
use native.Mathlib.Omega.{arith}
use borrow.Author.Rules.{rules}
use borrow.Author.Tests.{eq-eqb, ne_eqb}
use lib.ListN.{length}
use lib.IntN.{ℤ, pos, neg_ℤ}
use mir.Syntax.{w32}
use mir.Val.{SFits, to_z, of_z}
use mir.Facts.{to_z-of_z}
use Rattle.laws.specs.Choose.{told_yes_not, told_no_not}
use Rattle.rules.specs.declared.refusals.Refusal.{Refusal}
use Rattle.rules.specs.declared.refusals.Refusal.TheVariants.{Depth, Steps}
use Rattle.rules.specs.Refusals.{Answer}
use Rattle.std.specs.declared.result.Result.TheVariants.{Ok, Err}
use Rattle.std.specs.declared.result.Result.{Result}
use Rattle.rules.specs.declared.refusals.Thresholds.{Thresholds}
use Rattle.rules.specs.Numbers.{depth_ok}
use Rattle.rules.specs.Refusals.{number_of, or_else, unless}
use Rattle.rules.specs.Thresholds.{q_threshold, side_threshold, thresholds_check, answer_thresholds, thresholds_of}
use Rattle.rules.specs.CSide.{c_answer, steps_in, c_thresholds_check, c_thresholds}
use Rattle.checks.proofs.Checks.{else_parts}
use Rattle.thresholds.proofs.Unique.{q_range, side_range}
use Rattle.answers.proofs.Numbers.{held, held_minus, answer_refused, answer_accepted}

-- what an answer of both kinds says of the check behind it
from_both : (a : Answer) (Q S : ℕ) {u : Thresholds} → Ok u ≡ answer_thresholds a Q S → (Ok tt ≡ a) × (u.q ≡ Q) × (u.side ≡ S)
unfolding answer_thresholds
from_both (Ok tt) Q S e = (refl, cc, cc)
from_both (Err r) Q S e = absurd (let z : ◌≡◌ {A = ℕ} 0 1 = cc in omega arith)

from_refused : (a : Answer) (Q S : ℕ) {r : Refusal} → Err r ≡ answer_thresholds a Q S → Err r ≡ a
unfolding answer_thresholds
from_refused (Ok tt) Q S e = absurd (let z : ◌≡◌ {A = ℕ} 0 1 = cc in omega arith)
from_refused (Err r) Q S e = cc

module _ (curr prev : ℕ) (deltaq deltaside : ℤ) (depth : ℕ) (bytes : List ℕ) {u : Bool} (asked : u ≡ depth_ok depth) where
  pub bad_depth : {z : ℤ} → not u ≡ true → z ≡ neg_ℤ (pos (number_of Depth)) → to_z w32 (of_z w32 z) ≡ c_thresholds curr prev deltaq deltaside depth bytes
  unfolding c_thresholds c_thresholds_check or_else unless c_answer
  bad_depth {z} bad f = held_minus z Depth f ∙ rw (← told_no_not _ _ asked bad)

  module _ (yes : not u ≡ false) where
    deep : true ≡ depth_ok depth
    deep = told_yes_not _ _ asked yes

    pub bad_length : {z : ℤ} → (length bytes ≡ 1408 → ⊥) → z ≡ neg_ℤ (pos (number_of (Steps 0))) → to_z w32 (of_z w32 z) ≡ c_thresholds curr prev deltaq deltaside depth bytes
    unfolding c_thresholds c_thresholds_check or_else unless c_answer
    bad_length {z} n f = held_minus z (Steps 0) f ∙ rw (← deep, ne_eqb _ _ n)

    module _ (long : length bytes ≡ 1408) where
      -- the C side's check is the entry's where depth and length are good
      check_is : (a : Answer) → a ≡ thresholds_check depth (steps_in 352 bytes) deltaq deltaside → a ≡ c_thresholds_check depth bytes deltaq deltaside
      unfolding c_thresholds_check or_else unless
      check_is a e = rw (← deep, eq-eqb _ _ long) e

      module _ {steps : List ℕ} {t : Result Thresholds Refusal} (table : steps ≡ steps_in 352 bytes) (fq : SFits w32 deltaq) (fs : SFits w32 deltaside)
          (answered : t ≡ thresholds_of curr prev (to_z w32 (of_z w32 deltaq)) (to_z w32 (of_z w32 deltaside)) depth steps) where
        told : t ≡ thresholds_of curr prev deltaq deltaside depth steps
        told = rw (to_z-of_z fq, to_z-of_z fs) at answered

        parts : {u : Thresholds} → t ≡ Ok u → (Ok tt ≡ thresholds_check depth steps deltaq deltaside) × (u.q ≡ q_threshold depth steps curr prev deltaq) × (u.side ≡ side_threshold depth curr prev deltaside)
        unfolding thresholds_of
        parts e = from_both _ _ _ (sym e ∙ told)

        pub q_small : {u : Thresholds} → t ≡ Ok u → u.q ≤ 2048
        unfolding thresholds_check
        q_small e =
            let p = parts e in
            let rest = (else_parts _ _ (sym p.0)).1 in
            omega (arith, p.1, q_range depth curr prev deltaq (sym deep) steps (else_parts _ _ rest).0)

        pub side_small : {u : Thresholds} → t ≡ Ok u → u.side ≤ 839
        side_small e = omega (arith, (parts e).2, side_range depth curr prev deltaside (sym deep))

        -- at the way out with both: the number that the machine holds
        pub told_both : {u : Thresholds} {z : ℤ} → t ≡ Ok u → z ≡ pos (u.q * 65536 + u.side) → to_z w32 (of_z w32 z) ≡ c_thresholds curr prev deltaq deltaside depth bytes
        unfolding c_thresholds
        told_both {u} {z} e f =
            let p = parts e in
            held z (u.q * 65536 + u.side) f (omega (arith, q_small e, side_small e))
            ∙ answer_accepted _ _ (check_is (Ok tt) (rw table at p.0)) (rw (← table) (ap₂ (λ (q s : ℕ). q * 65536 + s) p.1 p.2))

        -- at the way out with a refusal
        pub told_refused : {r : Refusal} {z : ℤ} → t ≡ Err r → z ≡ neg_ℤ (pos (number_of r)) → to_z w32 (of_z w32 z) ≡ c_thresholds curr prev deltaq deltaside depth bytes
        unfolding c_thresholds thresholds_of
        told_refused {r} {z} e f =
            held_minus z r f ∙ answer_refused _ _ (check_is (Err r) (rw table at (from_refused _ _ _ (sym e ∙ told))))

pub ruleset blocks = (rules, bad_depth, bad_length, q_small, side_small, told_both, told_refused)
