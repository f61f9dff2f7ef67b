-- Checks in their order: at each way out of the code, that its answer is the one that the rules give.
-- Where the code asked a callee or a test, the premises are the callee's promise and how its answer came out. Assumes nothing.
use mathlib.Core.Path.{◌≡◌, refl, sym, ap, ◌∙◌}
use mathlib.Core.Bool.{Bool, true, false}
use Prim.Native.Nat.{ℕ}
use native.Mathlib.Omega.{arith}
use borrow.Author.Rules.{rules}
use Rattle.std.specs.Prelude.{Result, IsErr, IsErrAnd}
use Rattle.std.proofs.lemmas.Result.{err_from_is_err_and}
use Rattle.rules.specs.declared.refusals.Refusal.{Refusal}
use Rattle.rules.specs.Refusals.{Answer}
use Rattle.std.specs.declared.result.Result.TheVariants.{Ok, Err}
use Rattle.std.specs.declared.option.Option.{Option}
use Rattle.std.specs.declared.option.Option.TheVariants.{Some, None}
use Rattle.rules.specs.Refusals.{or_else, unless, found, only_if, settle}
use Rattle.laws.specs.Choose.{tests}

-- ---- one check after the other

-- a refused check stops
pub stop : (a b : Answer) {r : Refusal} → Err r ≡ a → Err r ≡ or_else a b
unfolding or_else
stop a b e = rw (← e)

pub stop_by : (a b x : Answer) {r : Refusal} → x ≡ a → x ≡ Err r → Err r ≡ or_else a b
stop_by a b x e f = stop a b (sym f ∙ e)

-- an accepted one goes on
pub go_on : (a b x : Answer) → Ok tt ≡ a → x ≡ b → x ≡ or_else a b
unfolding or_else
go_on a b x e f = rw (← e) f

pub go_on_by : (a b x y : Answer) → y ≡ a → y ≡ Ok tt → x ≡ b → x ≡ or_else a b
go_on_by a b x y e f g = go_on a b x (sym f ∙ e) g

-- a callee's answer, handed on
pub refused_by_holds : (a x : Answer) {r : Refusal} → x ≡ a → x ≡ Err r → Err r ≡ a
refused_by_holds a x e f = sym f ∙ e

pub accepted_by : (a x : Answer) → x ≡ a → x ≡ Ok tt → Ok tt ≡ a
accepted_by a x e f = sym f ∙ e

-- what a `?` hands on: the refusal as it came
pub handed : {A : Type 0} (x : Result A Refusal) {r : Refusal} → IsErr x × IsErrAnd x (λ s. s ≡ r) → x ≡ Err r
handed x h = let p = err_from_is_err_and x h.1 in rw (p.1, p.2)

-- ---- one check

-- a test
pub unless_bad : (t : Bool) (r : Refusal) → false ≡ t → Err r ≡ unless t r
unfolding unless
unless_bad t r e = rw (← e)

pub unless_good : (t : Bool) (r : Refusal) → true ≡ t → Ok tt ≡ unless t r
unfolding unless
unless_good t r e = rw (← e)

-- a search for a place: s is the refusal with the place that was found
pub found_bad : (f : Option ℕ) (r : ℕ → Refusal) (s : Refusal) {k : ℕ} → Some k ≡ f → s ≡ r k → Err s ≡ found f r
unfolding found
found_bad f r s e h = rw (← e) (ap Err h)

pub found_good : (f : Option ℕ) (r : ℕ → Refusal) → None ≡ f → Ok tt ≡ found f r
unfolding found
found_good f r e = rw (← e)

pub found_bad_by : (f g : Option ℕ) (r : ℕ → Refusal) (s : Refusal) {k : ℕ} → g ≡ f → g ≡ Some k → s ≡ r k → Err s ≡ found f r
found_bad_by f g r s e h i = found_bad f r s (sym h ∙ e) i

pub found_good_by : (f g : Option ℕ) (r : ℕ → Refusal) → g ≡ f → g ≡ None → Ok tt ≡ found f r
found_good_by f g r e h = found_good f r (sym h ∙ e)

-- a check that counts only where a test holds
pub only_yes : (t : Bool) (a x : Answer) → true ≡ t → x ≡ a → x ≡ only_if t a
unfolding only_if
only_yes t a x e f = rw (← e) f

pub only_no : (t : Bool) (a : Answer) → false ≡ t → Ok tt ≡ only_if t a
unfolding only_if
only_no t a e = rw (← e)

-- what is lent or new, by the answer
pub settle_refused : {A : Type 0} (a : Answer) (lent new : A) {r : Refusal} → Err r ≡ a → lent ≡ settle a lent new
unfolding settle
settle_refused a lent new e = rw (← e)

pub settle_accepted : {A : Type 0} (a : Answer) (lent new x : A) → Ok tt ≡ a → x ≡ new → x ≡ settle a lent new
unfolding settle
settle_accepted a lent new x e f = rw (← e) f

pub settle_refused_by : {A : Type 0} (a x : Answer) (lent new : A) {r : Refusal} → x ≡ a → x ≡ Err r → lent ≡ settle a lent new
settle_refused_by a x lent new e f = settle_refused a lent new (sym f ∙ e)

pub settle_accepted_by : {A : Type 0} (a x : Answer) (lent new y : A) → x ≡ a → x ≡ Ok tt → y ≡ new → y ≡ settle a lent new
settle_accepted_by a x lent new y e f g = settle_accepted a lent new y (sym f ∙ e) g

pub ruleset checks =
    (rules, tests, stop, stop_by, go_on, go_on_by, refused_by_holds, accepted_by, handed, unless_bad, unless_good, found_bad, found_good, found_bad_by, found_good_by, only_yes, only_no, settle_refused, settle_accepted, settle_refused_by, settle_accepted_by)

-- ---- what an accepted answer says

pub refused_not : {X : Type 0} {r : Refusal} → ◌≡◌ {A = Answer} (Err r) (Ok tt) → X
refused_not e = absurd (let z : ◌≡◌ {A = ℕ} 0 1 = cc in omega arith)

pub else_parts : (a b : Answer) → or_else a b ≡ Ok tt → (a ≡ Ok tt) × (b ≡ Ok tt)
unfolding or_else
else_parts (Ok tt) b e = (refl, e)
else_parts (Err r) b e = refused_not e

pub unless_true : (t : Bool) (r : Refusal) → unless t r ≡ Ok tt → t ≡ true
unfolding unless
unless_true true r e = refl
unless_true false r e = refused_not e

pub found_nothing : (f : Option ℕ) (r : ℕ → Refusal) → found f r ≡ Ok tt → f ≡ None
unfolding found
found_nothing (Some k) r e = refused_not e
found_nothing None r e = refl

pub only_part : (t : Bool) (a : Answer) → only_if t a ≡ Ok tt → t ≡ true → a ≡ Ok tt
unfolding only_if
only_part t a e f = rw f at e

-- the first check and the rest: run forwards by `search`
pub else_left : (a b : Answer) → or_else a b ≡ Ok tt → a ≡ Ok tt
else_left a b e = (else_parts a b e).0

pub else_right : (a b : Answer) → or_else a b ≡ Ok tt → b ≡ Ok tt
else_right a b e = (else_parts a b e).1

pub ruleset passed = (else_left, else_right, unless_true, found_nothing)
