-- Choices by a test, kept shut so that a goal shows the test and not its cases, and the laws by which code that tests one
-- thing after the other gives the choice: each ends in `x ≡ ..`, as a contract does, and the tests stand as `true ≡ t`, `false ≡ t`.
-- Assumes nothing.
use Rattle.std.specs.Prelude.{◌≡◌, refl, ◌⊎◌, Bool, true, false, not, List, [], ◌∷◌, ℕ, ◌≤◌, ◌<◌, eqb, leb, ltb}
use Rattle.std.proofs.Common.{sym, ◌∙◌, inl, inr, arith, rules, le-leb, lt-ltb, le-ltb, eq-eqb, ne_eqb, leb-true, ltb-true, eqb-true}
use Rattle.std.proofs.lemmas.Bool.{lt-leb, not-true, not-false}

-- the first of two where the test holds, the second where not
unfoldable pub pick : {A : Type 0} → Bool → A → A → A
pick true a b = a
pick false a b = b

unfoldable pub either : Bool → Bool → Bool
either true b = true
either false b = b

unfoldable pub both : Bool → Bool → Bool
both true b = b
both false b = false

-- every test of a list holds
unfoldable pub all : List Bool → Bool
all [] = true
all (true ∷ bs) = all bs
all (false ∷ bs) = false

-- ---- a test, by how the code's branch on it came out

pub is_le : (a b : ℕ) → a ≤ b → true ≡ leb a b
is_le a b h = sym (le-leb a b h)

pub not_le : (a b : ℕ) → b < a → false ≡ leb a b
not_le a b h = sym (lt-leb a b h)

pub is_lt : (a b : ℕ) → a < b → true ≡ ltb a b
is_lt a b h = sym (lt-ltb a b h)

pub not_lt : (a b : ℕ) → b ≤ a → false ≡ ltb a b
not_lt a b h = sym (le-ltb a b h)

pub is_eq : (a b : ℕ) → a ≡ b → true ≡ eqb a b
is_eq a b h = sym (eq-eqb a b h)

pub not_eq : (a b : ℕ) → (a ≡ b → ⊥) → false ≡ eqb a b
not_eq a b h = sym (ne_eqb a b h)

-- a callee's answer u to the test t, and how the branch on it, or on its negation, came out
pub told_yes : (t u : Bool) → u ≡ t → u ≡ true → true ≡ t
told_yes t u e f = sym f ∙ e

pub told_no : (t u : Bool) → u ≡ t → u ≡ false → false ≡ t
told_no t u e f = sym f ∙ e

pub told_yes_not : (t u : Bool) → u ≡ t → not u ≡ false → true ≡ t
told_yes_not t u e f = told_yes t u e (not-false u f)

pub told_no_not : (t u : Bool) → u ≡ t → not u ≡ true → false ≡ t
told_no_not t u e f = told_no t u e (not-true u f)

pub ruleset told = (told_yes, told_no, told_yes_not, told_no_not)

-- ---- choices

pub pick_yes : {A : Type 0} (t : Bool) (a b x : A) → true ≡ t → x ≡ a → x ≡ pick t a b
unfolding pick
pick_yes t a b x e f = rw (← e) f

pub pick_no : {A : Type 0} (t : Bool) (a b x : A) → false ≡ t → x ≡ b → x ≡ pick t a b
unfolding pick
pick_no t a b x e f = rw (← e) f

pub either_first : (a b : Bool) → true ≡ a → true ≡ either a b
unfolding either
either_first a b e = rw (← e)

pub either_second : (a b x : Bool) → false ≡ a → x ≡ b → x ≡ either a b
unfolding either
either_second a b x e f = rw (← e) f

-- as `||` leaves it: the first test is the answer
pub either_held : (a b : Bool) → true ≡ a → a ≡ either a b
unfolding either
either_held a b e = rw (← e)

pub both_bad : (a b : Bool) → false ≡ a → false ≡ both a b
unfolding both
both_bad a b e = rw (← e)

pub both_ok : (a b x : Bool) → true ≡ a → x ≡ b → x ≡ both a b
unfolding both
both_ok a b x e f = rw (← e) f

-- as `&&` leaves it
pub both_failed : (a b : Bool) → false ≡ a → a ≡ both a b
unfolding both
both_failed a b e = rw (← e)

-- one test after the other: one that fails, one that holds, the last, and none
pub all_bad : (b : Bool) (bs : List Bool) → false ≡ b → false ≡ all (b ∷ bs)
unfolding all
all_bad b bs e = rw (← e)

pub all_ok : (b : Bool) (bs : List Bool) (x : Bool) → true ≡ b → x ≡ all bs → x ≡ all (b ∷ bs)
unfolding all
all_ok b bs x e f = rw (← e) f

pub all_last : (b x : Bool) → x ≡ b → x ≡ all (b ∷ [])
unfolding all
all_last true x e = e
all_last false x e = e

pub all_none : true ≡ all []
unfolding all
all_none = refl

-- the code at each of its ways out, with no test left for later (a test that holds is asked before one that fails)
pub ruleset tests =
    (rules, all_bad, all_ok, all_last, all_none, both_bad, both_ok, both_failed, either_first, either_second, either_held, pick_yes, pick_no, is_le, not_le, is_lt, not_lt, is_eq, not_eq, told)

-- a test that fails after tests of which nothing is known
pub both_later : (a b : Bool) → false ≡ b → false ≡ both a b
unfolding both
both_later true b e = e
both_later false b e = refl

pub either_later : (a b : Bool) → true ≡ b → true ≡ either a b
unfolding either
either_later true b e = refl
either_later false b e = e

pub all_later : (b : Bool) (bs : List Bool) → false ≡ all bs → false ≡ all (b ∷ bs)
unfolding all
all_later true bs e = e
all_later false bs e = refl

-- ---- what a choice that came out true says

pub true_not_false : {X : Type 0} → ◌≡◌ {A = Bool} false true → X
true_not_false e = absurd (let z : ◌≡◌ {A = ℕ} 0 1 = cc in omega arith)

pub both_parts : (a b : Bool) → both a b ≡ true → (a ≡ true) × (b ≡ true)
unfolding both
both_parts true b e = (refl, e)
both_parts false b e = true_not_false e

pub either_parts : (a b : Bool) → either a b ≡ true → (a ≡ true) ⊎ (b ≡ true)
unfolding either
either_parts true b e = inl refl
either_parts false b e = inr e

pub all_parts : (b : Bool) (bs : List Bool) → all (b ∷ bs) ≡ true → (b ≡ true) × (all bs ≡ true)
unfolding all
all_parts true bs e = (refl, e)
all_parts false bs e = true_not_false e

-- the first test of a list, and the rest: run forwards by `search`
pub all_head : (b : Bool) (bs : List Bool) → all (b ∷ bs) ≡ true → b ≡ true
all_head b bs e = (all_parts b bs e).0

pub all_tail : (b : Bool) (bs : List Bool) → all (b ∷ bs) ≡ true → all bs ≡ true
all_tail b bs e = (all_parts b bs e).1

pub both_left : (a b : Bool) → both a b ≡ true → a ≡ true
both_left a b e = (both_parts a b e).0

pub both_right : (a b : Bool) → both a b ≡ true → b ≡ true
both_right a b e = (both_parts a b e).1

pub ruleset parts = (all_head, all_tail, both_left, both_right, leb-true, ltb-true, eqb-true)
