-- The first bad place: how a loop builds it up, how one place's tests are joined, and what an answer says of every place.
-- A loop's invariant is `first i f ≡ Nothing`. Assumes nothing.
use mathlib.Core.Path.{◌≡◌, refl, sym, ap, ◌∙◌}
use mathlib.Core.Logic.{⊎_elim}
use mathlib.Core.Bool.{Bool, true, false}
use mathlib.Core.List.{List}
use Prim.Native.Nat.{ℕ, zero, suc, ◌+◌, ◌≤◌, ◌<◌}
use native.Mathlib.Nat.{eq-or-lt_of_le, le_of_suc-le-suc, not-suc-le-zero, le_antisymm, lt-suc_self, le_step}
use native.Mathlib.Numerals.{add-one}
use native.Mathlib.Omega.{arith}
use lib.ListN.{get_or}
use borrow.Author.Rules.{rules}
use borrow.Author.Tests.{lt-ltb, le-ltb, ltb-false}
use Rattle.laws.specs.Choose.{told}
use Rattle.std.specs.declared.option.Option.{Option}
use Rattle.std.specs.declared.option.Option.TheVariants.{Some, None}
use Rattle.rules.specs.Refusals.{sooner, first, found_if, found_unless, over_top}

-- ---- a loop's turns

-- before the first turn
pub first_none : (f : ℕ → Option ℕ) → first 0 f ≡ None
unfolding first
first_none f = refl

-- a turn that found nothing
pub first_more : (f : ℕ → Option ℕ) (n : ℕ) → first n f ≡ None → None ≡ f n → first (n + 1) f ≡ None
unfolding first sooner
first_more f n before here = rw (add-one n, before, ← here)

-- a turn that found a place
pub first_found : (f : ℕ → Option ℕ) (n m : ℕ) {k : ℕ} → first n f ≡ None → Some k ≡ f n → n < m → Some k ≡ first m f
unfolding first sooner
first_found f n zero before here h = absurd (not-suc-le-zero h)
first_found f n (suc m) before here h =
    ⊎_elim
    (λ e. rw (← e, before) here)
    (λ lt. rw (← first_found f n m before here lt) refl)
    (eq-or-lt_of_le (le_of_suc-le-suc h))

-- after the last turn
pub first_end : (f : ℕ → Option ℕ) (n m : ℕ) → first n f ≡ None → n ≤ m → m ≤ n → None ≡ first m f
first_end f n m e a b = sym e ∙ ap (λ (k : ℕ). first k f) (le_antisymm a b)

-- a turn that asked a callee, whose answer is r
pub first_more_by : (f : ℕ → Option ℕ) (n : ℕ) (r : Option ℕ) → first n f ≡ None → r ≡ f n → r ≡ None → first (n + 1) f ≡ None
first_more_by f n r e a b = first_more f n e (sym b ∙ a)

pub first_found_by : (f : ℕ → Option ℕ) (n m : ℕ) (r : Option ℕ) {k : ℕ} → first n f ≡ None → r ≡ f n → r ≡ Some k → n < m → Some k ≡ first m f
first_found_by f n m r e a b h = first_found f n m e (sym b ∙ a) h

-- ---- one place's tests

-- two searches, one after the other
pub sooner_first : (a b : Option ℕ) {k : ℕ} → Some k ≡ a → Some k ≡ sooner a b
unfolding sooner
sooner_first a b e = rw (← e)

pub sooner_second : (a b r : Option ℕ) → None ≡ a → r ≡ b → r ≡ sooner a b
unfolding sooner
sooner_second a b r e f = rw (← e) f

-- the same of callees' answers
pub sooner_first_by : (a b r : Option ℕ) {k : ℕ} → r ≡ a → r ≡ Some k → Some k ≡ sooner a b
sooner_first_by a b r e f = sooner_first a b (sym f ∙ e)

pub sooner_second_by : (a b r s : Option ℕ) → r ≡ a → r ≡ None → s ≡ b → s ≡ sooner a b
sooner_second_by a b r s e f g = sooner_second a b s (sym f ∙ e) g

pub found_if_holds : (t : Bool) (k : ℕ) → true ≡ t → Some k ≡ found_if t k
unfolding found_if
found_if_holds t k e = rw (← e)

pub found_if_not : (t : Bool) (k : ℕ) → false ≡ t → None ≡ found_if t k
unfolding found_if
found_if_not t k e = rw (← e)

pub found_unless_holds : (t : Bool) (k : ℕ) → false ≡ t → Some k ≡ found_unless t k
unfolding found_unless
found_unless_holds t k e = rw (← e)

pub found_unless_not : (t : Bool) (k : ℕ) → true ≡ t → None ≡ found_unless t k
unfolding found_unless
found_unless_not t k e = rw (← e)

pub over_bad : (top : ℕ) (xs : List ℕ) (k : ℕ) → top < get_or xs k 0 → Some k ≡ over_top top xs k
unfolding over_top found_if
over_bad top xs k h = rw (lt-ltb _ _ h)

pub over_good : (top : ℕ) (xs : List ℕ) (k : ℕ) → get_or xs k 0 ≤ top → None ≡ over_top top xs k
unfolding over_top found_if
over_good top xs k h = rw (le-ltb _ _ h)

pub ruleset firsts =
    (rules, first_none, first_more, first_found, first_end, first_more_by, first_found_by, sooner_first, sooner_second, sooner_first_by, sooner_second_by, found_if_holds, found_if_not, found_unless_holds, found_unless_not, over_bad, over_good, told)

-- ---- what an answer says

pub at_not_nothing : {X : Type 0} {k : ℕ} → Some k ≡ None → X
at_not_nothing e = absurd (let z : ◌≡◌ {A = ℕ} 0 1 = cc in omega arith)

pub sooner_nothing : (a b : Option ℕ) → sooner a b ≡ None → (a ≡ None) × (b ≡ None)
unfolding sooner
sooner_nothing (Some k) b e = at_not_nothing e
sooner_nothing None b e = (refl, e)

pub if_nothing : (t : Bool) (k : ℕ) → found_if t k ≡ None → t ≡ false
unfolding found_if
if_nothing true k e = at_not_nothing e
if_nothing false k e = refl

pub unless_nothing : (t : Bool) (k : ℕ) → found_unless t k ≡ None → t ≡ true
unfolding found_unless
unless_nothing true k e = refl
unless_nothing false k e = at_not_nothing e

pub over_nothing : (top : ℕ) (xs : List ℕ) (k : ℕ) → over_top top xs k ≡ None → get_or xs k 0 ≤ top
unfolding over_top
over_nothing top xs k e = ltb-false _ _ (if_nothing _ k e)

module _ (f : ℕ → Option ℕ) where
  pub nothing_all : (n : ℕ) → first n f ≡ None → (i : ℕ) → i < n → f i ≡ None
  unfolding first
  nothing_all zero e i h = absurd (not-suc-le-zero h)
  nothing_all (suc n) e i h =
      let parts = sooner_nothing (first n f) (f n) e in
      ⊎_elim (λ q. rw q parts.1) (λ lt. nothing_all n parts.0 i lt) (eq-or-lt_of_le (le_of_suc-le-suc h))

  pub all_nothing : (n : ℕ) → ((i : ℕ) → i < n → f i ≡ None) → first n f ≡ None
  unfolding first sooner
  all_nothing zero all = refl
  all_nothing (suc n) all = rw (all_nothing n (λ i h. all i (le_step h))) (all n (lt-suc_self n))

  -- the place found is that of some turn, before which nothing was found
  pub at_first : (n k : ℕ) → first n f ≡ Some k → (j : ℕ) × (j < n) × (f j ≡ Some k) × (first j f ≡ None)
  unfolding first sooner
  at_first zero k e = at_not_nothing (sym e)
  at_first (suc n) k e = go (first n f) refl e (at_first n k)
    where
      go : (a : Option ℕ) → first n f ≡ a → sooner a (f n) ≡ Some k → (first n f ≡ Some k → (j : ℕ) × (j < n) × (f j ≡ Some k) × (first j f ≡ None)) → (j : ℕ) × (j < suc n) × (f j ≡ Some k) × (first j f ≡ None)
      go (Some m) q e' ih = let r = ih (q ∙ e') in (r.0, le_step r.1, r.2, r.3)
      go None q e' ih = (n, lt-suc_self n, e', q)
