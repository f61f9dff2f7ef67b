-- The numbers of a line: how each sort of them is read, and a list with them put there from a place on. Assumes nothing.
use Rattle.std.specs.Prelude.{ℕ, zero, suc, ◌-◌, min, List, Bool, length, set, ℤ, pos, negsuc, neg_ℤ, leb, ltb}
use Rattle.laws.specs.Choose.{pick, both}
use Rattle.text.specs.Places.{seek, ink_at}
use Rattle.text.specs.declared.number.Cursor.{Cursor}
use Rattle.text.specs.declared.number.Number.{Number}
use Rattle.text.specs.Numbers.{number_at}
use Rattle.text.specs.Typed.{failed, unsigned_of, signed_of}
use Rattle.settings.specs.declared.values.Read.{Read}
use Rattle.settings.specs.declared.values.Taken.{Taken}

-- a list with numbers put there, and the place after the last one with what is left of the line
pub record Put (A : Type 0) : Type 0 where
  pub list : List A
  pub left : Taken

-- ---- the five sorts of numbers

-- with a sign, of 32 bits
unfoldable pub read_signed : List ℕ → Cursor → Read ℤ
read_signed xs c = record { value = (signed_of (number_at xs c)).value; rest = (signed_of (number_at xs c)).rest }

-- without a sign, and at most most: short ones up to 65535, steps up to 4294967295, flags up to 1
unfoldable pub read_up_to : ℕ → List ℕ → Cursor → Read ℕ
read_up_to most xs c = record { value = (unsigned_of most (number_at xs c)).value; rest = (unsigned_of most (number_at xs c)).rest }

-- an offset is -10..7; what is below stands as -128, what is above as 127
unfoldable pub below_of : ℕ → ℤ
below_of size = pick (leb size 10) (neg_ℤ (pos size)) (negsuc 127)

unfoldable pub above_of : ℕ → ℤ
above_of size = pick (leb size 7) (pos size) (pos 127)

unfoldable pub offset_of : Bool → ℕ → ℤ
offset_of negative size = pick negative (below_of size) (above_of size)

-- the line is given up after an offset that is none
unfoldable pub offset_rest : Number → Cursor
offset_rest n = pick (pick n.negative (leb n.size 10) (leb n.size 7)) n.rest (failed n.rest)

unfoldable pub read_offset : List ℕ → Cursor → Read ℤ
read_offset xs c = record { value = offset_of (number_at xs c).negative (number_at xs c).size; rest = offset_rest (number_at xs c) }

-- ---- a line of them

-- the place after the spaces that stand here; the same place where the line is not in the text
unfoldable pub skipped : List ℕ → Cursor → Cursor
skipped xs c =
    pick (ltb (length xs) c.end) c
    (pick (ltb c.end c.at) c (record { at = seek (ink_at xs) c.at (c.end - c.at); end = c.end; good = c.good }))

-- a number is to be read: every one so far was there, and the line goes on
unfoldable pub goes_on : Cursor → Bool
goes_on c = both c.good (ltb c.at c.end)

-- the numbers from a line's place on, put into at most n places from at on
unfoldable pub taken : {A : Type 0} → List ℕ → (Cursor → Read A) → ℕ → List A → ℕ → Cursor → Put A
taken xs read zero list at c = record { list = list; left = record { at = at; rest = c } }
taken xs read (suc n) list at c =
    pick (goes_on c)
    (taken xs read n (set list at (read c).value) (suc at) (skipped xs (read c).rest))
    (record { list = list; left = record { at = at; rest = c } })

-- the places go from from up to end, or up to the list's own end
unfoldable pub taken_to : {A : Type 0} → List ℕ → (Cursor → Read A) → List A → ℕ → ℕ → Cursor → Put A
taken_to xs read list from end c = taken xs read (min end (length list) - from) list from (skipped xs c)
