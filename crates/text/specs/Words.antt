-- A word as one number, and where it ends; how many words there are. Assumes nothing.
use Rattle.std.specs.Prelude.{ℕ, zero, suc, ◌+◌, ◌-◌, ◌*◌, List, Bool, not, get_or, leb, ltb}
use Prim.Native.Char.{code}
use Prim.Native.String.{String, [], ◌∷◌}
use Rattle.laws.specs.Choose.{pick, both}
use Rattle.laws.specs.Sums.{sum}
use Rattle.text.specs.declared.spell.Word.{Word}
use Rattle.text.specs.Places.{blank_of}

-- a name as the number that is read of it: its letters, the first one highest, after a value read so far
abbrev pub spelled_on : ℕ → String → ℕ
spelled_on value [] = value
spelled_on value (c ∷ s) = spelled_on (256 * value + code c) s

abbrev pub spelled : String → ℕ
spelled s = spelled_on 0 s

-- a byte is above the space, and the value so far has at most seven letters
unfoldable pub goes_on : ℕ → ℕ → Bool
goes_on b value = both (not (leb b 32)) (ltb value 72057594037927936)

-- the letters from place at on, of which n bytes are there, after a value read so far
unfoldable pub read_letters : List ℕ → ℕ → ℕ → ℕ → Word
read_letters xs value at zero = record { value = value; next = at }
read_letters xs value at (suc n) =
    pick (goes_on (get_or xs at 0) value) (read_letters xs (256 * value + get_or xs at 0) (suc at) n) (record { value = value; next = at })

-- letters that end the line or have a space or a tab after them
unfoldable pub ended_at : List ℕ → ℕ → Word → Word
ended_at xs end w =
    pick (ltb w.next end) (pick (blank_of (get_or xs w.next 0)) w (record { value = 0; next = w.next })) w

-- the word from a place on
unfoldable pub word_at : List ℕ → ℕ → ℕ → Word
word_at xs from end = ended_at xs end (read_letters xs 0 from (end - from))

-- ---- how many words

-- 1 where something stands at k, and a space, a tab or the end after it
unfoldable pub last_of : List ℕ → ℕ → ℕ → ℕ
last_of xs end k = pick (blank_of (get_or xs k 0)) 0 (pick (leb end (k + 1)) 1 (pick (blank_of (get_or xs (k + 1) 0)) 1 0))

-- each word has one last letter
unfoldable pub words_in : List ℕ → ℕ → ℕ → ℕ
words_in xs from end = sum (end - from) (λ k. last_of xs end (from + k))
