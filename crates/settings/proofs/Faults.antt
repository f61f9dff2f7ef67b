-- What follows from an answer: a text without a fault has what must be there, and an empty one has not. Assumes nothing.
use mathlib.Core.Path.{◌≡◌, refl}
use mathlib.Core.Bool.{Bool, true, false}
use mathlib.Core.List.{List, []}
use Prim.Native.Nat.{ℕ, zero, suc, ◌+◌}
use native.Mathlib.Omega.{arith}
use borrow.Author.Tests.{eqb-false}
use lib.ListN.{length, get_or}
use lib.Dec.{eqb, ltb}
use Rattle.laws.specs.Choose.{pick}
use Rattle.laws.specs.Loops.{each}
use Rattle.settings.specs.Rules.{rule_of, first_places}
use Rattle.settings.specs.Lines.{Lists, State}
use Rattle.settings.specs.Text.{Parsed, missing_of, ended, line_end, said_at, walk, parse_of}

-- a line `settings` and a qindex were read: their places moved on
pub record Given (s : State) : Type 0 where
  pub version : get_or s.places 1 0 ≡ 0 → ⊥
  pub qindex : get_or s.places 2 0 ≡ 0 → ⊥

abbrev pub Faultless : Parsed → Type 0
Faultless p = p.fault.kind ≡ 0 → Given p.state

-- a fact of a choice, by what the test says at each side
by_test : {A : Type 0} (P : A → Type 0) (t : Bool) (a b : A) → (t ≡ true → P a) → (t ≡ false → P b) → P (pick t a b)
unfolding pick
by_test P true a b f g = f refl
by_test P false a b f g = g refl

ended_given : (at l : ℕ) (s : State) → Faultless (ended at l s)
unfolding ended missing_of
ended_given at l s =
    by_test (λ (k : ℕ). k ≡ 0 → Given s) (eqb (get_or s.places 1 0) 0) _ _
    (λ e h. absurd (omega arith))
    (λ e. by_test (λ (k : ℕ). k ≡ 0 → Given s) (eqb (get_or s.places 2 0) 0) _ _
    (λ f h. absurd (omega arith))
    (λ f h. record { version = eqb-false (get_or s.places 1 0) 0 e; qindex = eqb-false (get_or s.places 2 0) 0 f }))

walk_given : (xs : List ℕ) (n at l : ℕ) (s : State) → Faultless (walk xs n at l s)
unfolding walk
walk_given xs zero at l s = ended_given at l s
walk_given xs (suc n) at l s =
    by_test Faultless (ltb at (length xs)) _ _
    (λ e. by_test Faultless (eqb (said_at xs at s).answer 0) _ _
    (λ f. walk_given xs n (line_end xs at + 1) (l + 1) (said_at xs at s).state)
    (λ f h. absurd (eqb-false (said_at xs at s).answer 0 f h)))
    (λ e. ended_given at l s)

-- where the answer is no fault, both are there
pub parse_given : (xs : List ℕ) (s : State) → Faultless (parse_of xs s)
unfolding parse_of
parse_given xs s = walk_given xs (length xs) 0 1 s

-- an empty text lacks `settings`, kind 1, at line 1
pub parse_empty : (n : ℕ) (ls : Lists) → (parse_of [] (record { lists = ls; places = first_places n })).fault ≡ record { line = 1; kind = 1; at = 0 }
unfolding parse_of walk ended missing_of first_places rule_of each pick
parse_empty n ls = refl
