-- The number at a place of a line: one space before it, a minus sign, digits, and the line's end, a space or a tab after it. Assumes nothing.
use Rattle.std.specs.Prelude.{ℕ, ◌+◌, ◌-◌, List, Bool, true, false, length, get_or, ltb, leb, eqb}
use Rattle.text.specs.declared.number.Cursor.{Cursor}
use Rattle.text.specs.declared.number.Number.{Number}
use Rattle.text.specs.declared.number.Run.{Run}
use Rattle.text.specs.Digits.{read_digits}
use Rattle.text.specs.Places.{blank_of}

-- the first where the test holds, else the second
abbrev pub pick : {A : Type 0} → Bool → A → A → A
pick true a b = a
pick false a b = b

-- no number: the line is given up
unfoldable pub nothing : ℕ → Number
nothing end = record { negative = false; size = 0; rest = record { at = end; end = end; good = false } }

-- the place after byte b where it stands, else the same place
unfoldable pub past : List ℕ → ℕ → ℕ → ℕ → ℕ
past xs at end b = pick (ltb at end) (pick (eqb (get_or xs at 0) b) (at + 1) at) at

-- the line ends here, or a space or a tab stands here
unfoldable pub ends : List ℕ → ℕ → ℕ → Bool
ends xs at end = pick (ltb at end) (blank_of (get_or xs at 0)) true

-- a run of at least one digit that ends where it should is a number
unfoldable pub closed : List ℕ → Bool → ℕ → Run → ℕ → Number
closed xs negative first run end =
    pick (leb run.next first) (nothing end)
    (pick (ends xs run.next end)
    (record { negative = negative; size = run.value; rest = record { at = run.next; end = end; good = true } })
    (nothing end))

-- a minus sign, byte 45, if there is one, and the digits after it
unfoldable pub signed_at : List ℕ → ℕ → ℕ → Number
signed_at xs start end =
    closed xs (ltb start (past xs start end 45)) (past xs start end 45)
    (read_digits xs 0 (past xs start end 45) (end - past xs start end 45)) end

-- every number so far was there, and nothing follows
unfoldable pub whole_line : Cursor → Bool
whole_line c = pick c.good (eqb c.at c.end) false

-- the number at a cursor that is good and stands in the text
unfoldable pub number_at : List ℕ → Cursor → Number
number_at xs c =
    pick c.good
    (pick (ltb (length xs) c.end) (nothing c.end)
    (pick (ltb c.end c.at) (nothing c.end) (signed_at xs (past xs c.at c.end 32) c.end)))
    (nothing c.end)
