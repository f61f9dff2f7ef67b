-- Document 01, "Refusal numbers": the number and place of each case, the order of checks, and the first bad place.
-- Assumes nothing.
use Rattle.std.specs.Prelude.{ℕ, zero, suc, ◌+◌, ◌*◌, Bool, true, false, List, get_or, ltb, Result, ⊤}
use Rattle.rules.specs.declared.counts.Counts.{Counts}
use Rattle.rules.specs.declared.counts.Visited.{Visited}
use Rattle.rules.specs.declared.refusals.Refusal.{Refusal}
use Rattle.rules.specs.declared.refusals.Refusal.TheVariants.{Depth, Size, Length, Steps, Setting, Cell, Room, Sample, Leaf, Buffer, Header, Cut, Entry, Filled, Spent}
use Rattle.std.specs.declared.result.Result.TheVariants.{Ok, Err}
use Rattle.std.specs.declared.option.Option.{Option}
use Rattle.std.specs.declared.option.Option.TheVariants.{Some, None}

-- what a check answers, or an entry that gives back nothing but the lent lists
abbrev pub Answer : Type 0
Answer = Result ⊤ Refusal

-- of an entry that answers more: whether it accepts, and if not why
abbrev pub answered : {A : Type 0} → Result A Refusal → Answer
answered (Ok x) = Ok tt
answered (Err r) = Err r

-- ticket 4: how many samples an entry stored and changed; "A refusal reports zero for both."
abbrev pub stored_in : Result Counts Refusal → ℕ
stored_in (Ok c) = c.stored
stored_in (Err r) = 0

abbrev pub changed_in : Result Counts Refusal → ℕ
changed_in (Ok c) = c.changed
changed_in (Err r) = 0

-- of a recorded plane: the length of its record or the refusal, and the counts alone
abbrev pub length_told : Result Visited Refusal → Result ℕ Refusal
length_told (Ok v) = Ok v.bytes
length_told (Err r) = Err r

abbrev pub counted : Result Visited Refusal → Result Counts Refusal
counted (Ok v) = Ok (record { stored = v.stored; changed = v.changed })
counted (Err r) = Err r

-- the table's first column
abbrev pub number_of : Refusal → ℕ
number_of Depth = 1
number_of Size = 2
number_of Length = 3
number_of (Steps k) = 4
number_of Setting = 5
number_of (Cell k) = 6
number_of (Room k) = 7
number_of (Sample k) = 8
number_of (Leaf k) = 9
-- ticket 1: "10, room less than 5 + 10 times the marked edges"
number_of Buffer = 10
-- ticket 2: "11 mark, version or fewer than 5 bytes, 12 a cut entry and 13 an entry outside 01's ranges"
number_of Header = 11
number_of (Cut k) = 12
number_of (Entry k) = 13
-- ticket 8: "14 for a count, held or new, that exceeds the plane or is no multiple of 4, or a new one below the held; 15 for a spent state"
number_of Filled = 14
number_of Spent = 15

-- the table's last column
abbrev pub place_refused : Refusal → ℕ
place_refused Depth = 0
place_refused Size = 0
place_refused Length = 0
place_refused (Steps k) = k
place_refused Setting = 0
place_refused (Cell k) = k
place_refused (Room k) = k
place_refused (Sample k) = k
place_refused (Leaf k) = k
-- "any place that a ticket leaves unnamed, is 0"
place_refused Buffer = 0
place_refused Header = 0
-- "each with its number"
place_refused (Cut k) = k
place_refused (Entry k) = k
place_refused Filled = 0
place_refused Spent = 0

-- ---- checks, one after the other

-- the first refusal of two
unfoldable pub or_else : Answer → Answer → Answer
or_else (Err r) b = Err r
or_else (Ok tt) b = b

-- refused where the test fails
unfoldable pub unless : Bool → Refusal → Answer
unless true r = Ok tt
unless false r = Err r

-- refused at the place that was found
unfoldable pub found : Option ℕ → (ℕ → Refusal) → Answer
found (Some k) r = Err (r k)
found None r = Ok tt

-- a check that counts only where the test holds
unfoldable pub only_if : Bool → Answer → Answer
only_if true a = a
only_if false a = Ok tt

-- what was lent where the answer is a refusal, and what is new where not
unfoldable pub settle : {A : Type 0} → Answer → A → A → A
settle (Err r) lent new = lent
settle (Ok tt) lent new = new

-- ---- the first bad place

-- the place found first of two
unfoldable pub sooner : Option ℕ → Option ℕ → Option ℕ
sooner (Some k) b = Some k
sooner None b = b

-- the first place found among f 0, f 1, up to f (n - 1)
unfoldable pub first : ℕ → (ℕ → Option ℕ) → Option ℕ
first zero f = None
first (suc n) f = sooner (first n f) (f n)

-- the place k where the test holds, and where it fails
unfoldable pub found_if : Bool → ℕ → Option ℕ
found_if true k = Some k
found_if false k = None

unfoldable pub found_unless : Bool → ℕ → Option ℕ
found_unless true k = None
found_unless false k = Some k

-- ---- samples: "a used sample exceeds top: its offset, first row by row"

unfoldable pub over_top : ℕ → List ℕ → ℕ → Option ℕ
over_top top xs k = found_if (ltb top (get_or xs k 0)) k

-- count samples from an offset
unfoldable pub over_row : ℕ → List ℕ → ℕ → ℕ → Option ℕ
over_row top xs start count = first count (λ x. over_top top xs (start + x))

-- rows of count samples, the first at an offset and each a stride after the last
unfoldable pub over_box : ℕ → List ℕ → ℕ → ℕ → ℕ → ℕ → Option ℕ
over_box top xs start stride count rows = first rows (λ y. over_row top xs (start + y * stride) count)
