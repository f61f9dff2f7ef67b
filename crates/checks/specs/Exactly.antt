-- Document 01, "given exactly when": an entry's tests in their order, and that a number is given exactly when its test fails and those before it hold.
-- Assumes nothing.
use Rattle.std.specs.Prelude.{◌≡◌, ◌⊎◌, ◌↔◌, Bool, true, false, ◌&&◌, List, [], ◌∷◌, ℕ, ◌-◌, ltb, get_or}
use Rattle.rules.specs.declared.refusals.Refusal.{Refusal}
use Rattle.rules.specs.declared.refusals.Refusal.TheVariants.{Depth, Size, Length, Steps, Setting, Cell, Room, Sample, Leaf, Buffer, Header, Cut, Entry, Filled, Spent}
use Rattle.rules.specs.Refusals.{Answer}
use Rattle.std.specs.declared.result.Result.TheVariants.{Ok, Err}
use Rattle.std.specs.declared.option.Option.{Option}
use Rattle.std.specs.declared.option.Option.TheVariants.{Some, None}
use Rattle.rules.specs.Refusals.{number_of, place_refused, or_else, unless, found, only_if}

-- ---- a test

-- `ask` fails at place 0 where the condition does not hold, `seek` at the place that was found, `seek_any` at place 0 where one was found;
-- `and_then` is one test after the other, `asked_if` a test that counts only where the condition holds
pub data Test : Type 0 where
  ask : Bool → Test
  seek : Option ℕ → Test
  seek_any : Option ℕ → Test
  and_then : Test → Test → Test
  asked_if : Bool → Test → Test

abbrev pub Holds : Test → Type 0
Holds (ask b) = b ≡ true
Holds (seek f) = f ≡ None
Holds (seek_any f) = f ≡ None
Holds (and_then s t) = Holds s × Holds t
Holds (asked_if b t) = b ≡ true → Holds t

-- it fails, and the place reported is p
abbrev pub Fails : Test → ℕ → Type 0
Fails (ask b) p = (b ≡ false) × (p ≡ 0)
Fails (seek f) p = f ≡ Some p
Fails (seek_any f) p = ((k : ℕ) × (f ≡ Some k)) × (p ≡ 0)
Fails (and_then s t) p = Fails s p ⊎ (Holds s × Fails t p)
Fails (asked_if b t) p = (b ≡ true) × Fails t p

-- what a test answers, its refusals being r
abbrev pub answer_of : (ℕ → Refusal) → Test → Answer
answer_of r (ask b) = unless b (r 0)
answer_of r (seek f) = found f r
answer_of r (seek_any f) = found f (λ k. r 0)
answer_of r (and_then s t) = or_else (answer_of r s) (answer_of r t)
answer_of r (asked_if b t) = only_if b (answer_of r t)

-- ---- tests in their order, each with its number

pub record Check : Type 0 where
  pub number : ℕ
  pub test : Test

abbrev pub check : ℕ → Test → Check
check k t = record { number = k; test = t }

-- the table, row by row, and the refusal with that number at that place
abbrev pub kinds : List (ℕ → Refusal)
kinds =
    (λ p. Depth) ∷ (λ p. Size) ∷ (λ p. Length) ∷ Steps ∷ (λ p. Setting) ∷ Cell ∷ Room ∷ Sample ∷ Leaf ∷ (λ p. Buffer) ∷ (λ p. Header) ∷ Cut ∷ Entry ∷ (λ p. Filled) ∷ (λ p. Spent) ∷ []

abbrev pub refusal_of : ℕ → ℕ → Refusal
refusal_of k = get_or kinds (k - 1) (λ p. Depth)

abbrev pub chain : List Check → Answer
chain [] = Ok tt
chain (c ∷ []) = answer_of (refusal_of c.number) c.test
chain (c ∷ d ∷ cs) = or_else (answer_of (refusal_of c.number) c.test) (chain (d ∷ cs))

-- "Order of checks: 1,2,3,4,5,9,6,7,8"; ticket 1: 10, "tested after 8"; ticket 2: 11, 12, 13 "after 5", "then 7"; ticket 8: "order 15, then 1 to 7 as in 01, 14, 8". The turn of each number, in tens; 0 is no number
abbrev pub turn_of : ℕ → ℕ
turn_of k = get_or (0 ∷ 10 ∷ 20 ∷ 30 ∷ 40 ∷ 50 ∷ 70 ∷ 80 ∷ 90 ∷ 60 ∷ 100 ∷ 61 ∷ 62 ∷ 63 ∷ 85 ∷ 5 ∷ []) k 0

-- the numbers that report a place: 4, 6, 7, 8, 9, 12 and 13
abbrev pub has_place : ℕ → Bool
has_place k = get_or (false ∷ false ∷ false ∷ false ∷ true ∷ false ∷ true ∷ true ∷ true ∷ true ∷ false ∷ false ∷ true ∷ true ∷ false ∷ false ∷ []) k false

abbrev pub placed : ℕ → Test → Bool
placed k (ask b) = true
placed k (seek f) = has_place k
placed k (seek_any f) = true
placed k (and_then s t) = placed k s && placed k t
placed k (asked_if b t) = placed k t

-- after the turn n, the checks stand in document 01's order, each number once
abbrev pub in_order : ℕ → List Check → Bool
in_order n [] = true
in_order n (c ∷ cs) = ltb n (turn_of c.number) && (placed c.number c.test && in_order (turn_of c.number) cs)

-- ---- "given exactly when"

-- the answer's number is k and its place p
pub record Given (a : Answer) (k p : ℕ) : Type 0 where
  pub refusal : Refusal
  pub is : a ≡ Err refusal
  pub number : number_of refusal ≡ k
  pub place : place_refused refusal ≡ p

-- each number is given, with a place, exactly when its test fails at that place and all before it hold; accepted exactly when all hold
abbrev pub Each : Answer → Type 0 → List Check → Type 0
Each a before [] = (a ≡ Ok tt) ↔ before
Each a before (c ∷ cs) =
    ((p : ℕ) → Given a c.number p ↔ (before × Fails c.test p)) × Each a (before × Holds c.test) cs

abbrev pub Exactly : Answer → List Check → Type 0
Exactly a cs = Each a (Unit {0}) cs

-- k is the number of one of the tests
abbrev pub Among : ℕ → List Check → Type 0
Among k [] = ⊥
Among k (c ∷ cs) = (k ≡ c.number) ⊎ Among k cs
