-- What C is told by an entry: a number, the place of a refusal, and the lent lists.
-- Assumes nothing.
use Rattle.std.specs.Prelude.{◌≡◌, List, ℕ, ◌≤◌, leb, length, set, ℤ}
use Rattle.rules.specs.declared.refusals.Refusal.TheVariants.{Length}
use Rattle.rules.specs.Refusals.{Answer}
use Rattle.std.specs.declared.result.Result.TheVariants.{Ok, Err}
use Rattle.std.specs.declared.result.Result.{Result}
use Rattle.rules.specs.declared.refusals.Refusal.{Refusal}
use Rattle.rules.specs.Refusals.{place_refused, or_else, unless, settle}
use Rattle.rules.specs.CSide.{c_answer}

-- the place of a refusal in the first entry of a lent list, which may be empty
unfoldable pub placed : Answer → List ℕ → List ℕ
placed (Ok tt) place = place
placed (Err r) place = set place 0 (place_refused r)

-- ticket 4: stored and changed samples in the first two entries of a lent list, as many as it has
unfoldable pub tallied : ℕ → ℕ → List ℕ → List ℕ
tallied stored changed counts = set (set counts 0 stored) 1 changed

-- a count or minus the refusal number, and the list of the place afterwards
pub record Counted (a : Answer) (count : ℕ) (lent : List ℕ) (n : ℤ) (place : List ℕ) : Type 0 where
  pub answer : n ≡ c_answer a count
  pub place_is : place ≡ placed a lent

-- the same of an entry that hands back nothing but its lent lists: 0 or minus the refusal number
abbrev pub Told : Answer → List ℕ → ℤ → List ℕ → Type 0
Told a lent n place = Counted a 0 lent n place

-- a record's answer: whether it was refused, and its bytes
unfoldable pub refusal_in : Result ℕ Refusal → Answer
refusal_in (Ok n) = Ok tt
refusal_in (Err r) = Err r

unfoldable pub bytes_in : Result ℕ Refusal → ℕ
bytes_in (Ok n) = n
bytes_in (Err r) = 0

-- the bytes of the longest record, 5 and 10 for each of 2·1024·1024 edges, are a number that C's answer holds
abbrev pub Few : Result ℕ Refusal → Type 0
Few a = (n : ℕ) → a ≡ Ok n → n ≤ 20971525

-- a check whose settings are a list of n numbers or more: a shorter one is a lent list shorter than needed, refused before all else, since nothing else can be read
unfoldable pub listed : ℕ → List ℤ → Answer → Answer
listed n settings check = or_else (unless (leb n (length settings)) Length) check

-- what C is told of the check, and what was lent is left as it was or new
pub record Reported {A : Type 0} (check : Answer) (lent new : A) (place : List ℕ) (n : ℤ) (left : A) (placed : List ℕ) : Type 0 where
  pub told : Told check place n placed
  pub left_is : left ≡ settle check lent new

-- ---- ticket 4: "A refusal reports zero for both."

-- the same of an entry that filters: stored and changed are its counts where it is accepted
pub record FilterTold {A : Type 0} (check : Answer) (lent new : A) (stored changed : ℕ) (place counts : List ℕ) (n : ℤ) (left : A) (placed tally : List ℕ) : Type 0 where
  pub reported : Reported check lent new place n left placed
  pub counts_are : tally ≡ tallied (settle check 0 stored) (settle check 0 changed) counts
