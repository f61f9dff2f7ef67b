-- The run of digits at a place of a text: its value and where it ends. Assumes nothing.
use Rattle.std.specs.Prelude.{ℕ, zero, suc, ◌+◌, ◌-◌, ◌*◌, List, Bool, true, false, get_or, ltb}
use Rattle.text.specs.declared.number.Run.{Run}

-- the first where the test holds, else the second
abbrev pub pick_run : Bool → Run → Run → Run
pick_run true a b = a
pick_run false a b = b

abbrev pub both : Bool → Bool → Bool
both true b = b
both false b = false

abbrev pub opposite : Bool → Bool
opposite true = false
opposite false = true

-- a byte is a digit, '0' to '9', and the value so far has at most seventeen
unfoldable pub goes_on : ℕ → ℕ → Bool
goes_on b value = both (opposite (ltb b 48)) (both (opposite (ltb 57 b)) (ltb value 100000000000000000))

-- the digits from place at on, of which n bytes are there, after a value read so far
unfoldable pub read_digits : List ℕ → ℕ → ℕ → ℕ → Run
read_digits xs value at zero = record { value = value; next = at }
read_digits xs value at (suc n) =
    pick_run (goes_on (get_or xs at 0) value)
    (read_digits xs (10 * value + (get_or xs at 0 - 48)) (suc at) n)
    (record { value = value; next = at })
