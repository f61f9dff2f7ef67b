-- The lists of a line, their length first: the numbers that stand there, and what a lent list is once they were read to its front.
-- Assumes nothing.
use Rattle.std.specs.Prelude.{ℕ, zero, suc, ◌+◌, ◌≤◌, ◌≡◌, List, true, false, eqb, length, take, get_or}
use Rattle.laws.specs.Choose.{pick}
use Rattle.laws.specs.Loops.{turns, filled}
use Rattle.text.specs.declared.number.Cursor.{Cursor}
use Rattle.text.specs.declared.typed.Unsigned.{Unsigned}
use Rattle.text.specs.declared.lists.Held.{Held}
use Rattle.text.specs.declared.lists.Listed.{Listed}
use Rattle.text.specs.declared.lists.Two.{Two}
use Rattle.text.specs.declared.lists.Steps.{Steps}
use Rattle.text.specs.Numbers.{number_at, whole_line}
use Rattle.text.specs.Typed.{unsigned_of}

-- n entries stand at the front of after, which is as long as before; the third part follows from the second, and is what `&list[..n]` asks
pub record Fills {A : Type 0} (n : ℕ) (before after : List A) : Type 0 where
  pub kept : length after ≡ length before
  pub within : n ≤ length after
  pub front : n ≡ length (take n after)

-- ---- entries of at most most

-- what follows the first i of them
unfoldable pub after_entries : ℕ → List ℕ → Cursor → ℕ → Cursor
after_entries most text c zero = c
after_entries most text c (suc i) = (unsigned_of most (number_at text (after_entries most text c i))).rest

-- the one after the first i, 0 where it is not there
unfoldable pub entry_at : ℕ → List ℕ → Cursor → ℕ → ℕ
entry_at most text c i = (unsigned_of most (number_at text (after_entries most text c i))).value

-- ---- a list of them

-- its length, where that many fit
unfoldable pub length_at : List ℕ → Cursor → ℕ → Unsigned
length_at text c room = unsigned_of room (number_at text c)

-- its length and what follows it
unfoldable pub listed_at : ℕ → List ℕ → Cursor → ℕ → Listed
listed_at most text c room =
    record { length = (length_at text c room).value; rest = after_entries most text (length_at text c room).rest (length_at text c room).value }

-- the lent list with its entries at the front; of makes an entry of a number
unfoldable pub list_at : {A : Type 0} → (ℕ → A) → ℕ → List ℕ → Cursor → List A → List A
list_at of most text c lent =
    filled lent (λ i. of (entry_at most text (length_at text c (length lent)).rest i)) (length_at text c (length lent)).value

-- all that reading a list says
pub record Reads {A : Type 0} (of : ℕ → A) (most : ℕ) (text : List ℕ) (c : Cursor) (before after : List A) (r : Listed) : Type 0 where
  pub fills : Fills r.length before after
  pub listed : r ≡ listed_at most text c (length before)
  pub list : after ≡ list_at of most text c before

-- ---- two lists of u8 entries, one after the other

unfoldable pub two_at : List ℕ → Cursor → ℕ → ℕ → Two
two_at text c rooma roomb = two (listed_at 255 text c rooma)
  where
    two : Listed → Two
    two l = record { a = l.length; b = (listed_at 255 text l.rest roomb).length; rest = (listed_at 255 text l.rest roomb).rest }

pub record ReadsTwo (text : List ℕ) (c : Cursor) (a b a' b' : List ℕ) (r : Two) : Type 0 where
  pub a_fits : r.a ≤ length a
  pub b_fits : r.b ≤ length b
  pub two : r ≡ two_at text c (length a) (length b)
  pub a_list : a' ≡ list_at (λ n. n) 255 text c a
  pub b_list : b' ≡ list_at (λ n. n) 255 text (listed_at 255 text c (length a)).rest b

-- ---- a line that sets the step table

unfoldable pub steps_at : List ℕ → Cursor → ℕ → Steps
steps_at text c room = record { length = (listed_at 4294967295 text c room).length; whole = whole_line (listed_at 4294967295 text c room).rest }

pub record SetsSteps (text : List ℕ) (c : Cursor) (before after : List ℕ) (r : Steps) : Type 0 where
  pub kept : length after ≡ length before
  pub steps : r ≡ steps_at text c (length before)
  pub list : after ≡ list_at (λ n. n) 4294967295 text c before

-- ---- the next entries held against those of a list

abbrev pub none_held : Cursor → Held
none_held c = record { same = true; place = 0; rest = c }

-- one entry more against v; after one that differs nothing more is read
unfoldable pub held_on : ℕ → List ℕ → ℕ → Held → Held
held_on most text v h =
    pick h.same
    (pick (eqb (unsigned_of most (number_at text h.rest)).value v)
    (record { same = true; place = h.place + 1; rest = (unsigned_of most (number_at text h.rest)).rest })
    (record { same = false; place = h.place; rest = (unsigned_of most (number_at text h.rest)).rest }))
    h

-- number is an entry's number, none what stands beyond the list
unfoldable pub held_at : {A : Type 0} → (A → ℕ) → A → ℕ → List ℕ → Cursor → List A → Held
held_at number none most text c list = turns (length list) (λ i h. held_on most text (number (get_or list i none)) h) (none_held c)
