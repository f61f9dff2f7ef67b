-- A list of tile starts: a start that is good or not, and what an accepted list gives.
-- Assumes nothing.
use mathlib.Core.Path.{◌≡◌, refl, ap}
use mathlib.Core.Bool.{false}
use mathlib.Core.List.{List}
use Prim.Native.Nat.{ℕ, ◌-◌, ◌≤◌, ◌<◌}
use native.Mathlib.Omega.{arith}
use borrow.Author.Rules.{rules}
use borrow.Author.Tests.{ltb-true}
use lib.Dec.{eqb, ltb}
use lib.ListN.{length, get_or}
use Rattle.laws.specs.Choose.{pick, is_lt, not_lt, both_bad, both_ok, both_parts}
use Rattle.rules.specs.declared.refusals.Refusal.TheVariants.{Setting}
use Rattle.std.specs.declared.result.Result.TheVariants.{Ok, Err}
use Rattle.std.specs.declared.option.Option.{Option}
use Rattle.std.specs.declared.option.Option.TheVariants.{Some}
use Rattle.rules.specs.Refusals.{found_unless}
use Rattle.rules.specs.Plane.{start_good, bad_start, tiles_check}
use Rattle.checks.proofs.First.{nothing_all, unless_nothing}
use Rattle.checks.proofs.Checks.{found_nothing, found_bad_by}

-- one start a, by the number b that it is to be above
module _ (cols : ℕ) (ts : List ℕ) (k : ℕ) {a b : ℕ} (read : a ≡ get_or ts k 0) (low : b ≡ pick (eqb k 0) 0 (get_or ts (k - 1) 0)) where
  pub start_low : a ≤ b → false ≡ start_good cols ts k
  unfolding start_good
  start_low h = both_bad _ _ (not_lt (pick (eqb k 0) 0 (get_or ts (k - 1) 0)) (get_or ts k 0) (omega arith))

  pub start_last : b < a → ltb a cols ≡ start_good cols ts k
  unfolding start_good
  start_last h = both_ok _ _ _ (is_lt (pick (eqb k 0) 0 (get_or ts (k - 1) 0)) (get_or ts k 0) (omega arith)) (ap (λ (n : ℕ). ltb n cols) read)

pub ruleset good = (rules, start_low, start_last)

-- refusal 5, by the start found
pub start_bad : (cols : ℕ) (ts : List ℕ) (f : Option ℕ) {k : ℕ} → f ≡ bad_start cols ts → f ≡ Some k → Err Setting ≡ tiles_check cols ts
unfolding tiles_check
start_bad cols ts f e h = found_bad_by (bad_start cols ts) f (λ k. Setting) Setting e h refl

pub ruleset checking = (rules, start_bad)

-- an accepted list's starts are columns
pub starts_below : (cols : ℕ) (ts : List ℕ) → tiles_check cols ts ≡ Ok tt → (k : ℕ) → k < length ts → get_or ts k 0 < cols
unfolding tiles_check bad_start start_good
starts_below cols ts e k h =
    let none = found_nothing (bad_start cols ts) (λ i. Setting) e in
    ltb-true _ _ (both_parts _ _ (unless_nothing (start_good cols ts k) k (nothing_all (λ i. found_unless (start_good cols ts i) i) (length ts) none k h))).1
