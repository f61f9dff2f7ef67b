-- Where a list that is due stands on its line. Assumes nothing.
use Rattle.std.specs.Prelude.{ℕ, List, Bool, true, false}
use Rattle.text.specs.declared.number.Cursor.{Cursor}
use Rattle.text.specs.Numbers.{number_at}
use Rattle.text.specs.Typed.{unsigned_of}
use Rattle.text.specs.Lists.{held_at}
use Rattle.text.specs.declared.lists.Held.{Held}

-- the entries of a lent list stand after its length, those of a new one where it begins
abbrev pub start_of : Bool → List ℕ → Cursor → Cursor
start_of true text c = (unsigned_of 4294967295 (number_at text c)).rest
start_of false text c = c

-- a list held against the entries that are due for it
abbrev pub held_due : {A : Type 0} → (A → ℕ) → A → ℕ → Bool → List ℕ → Cursor → List A → Held
held_due number_of none most lent text c list = held_at number_of none most text (start_of lent text c) list
