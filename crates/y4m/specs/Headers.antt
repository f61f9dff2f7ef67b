-- What a header line says: its first word, and the values after W, H and C. Assumes nothing.
use Rattle.std.specs.Prelude.{ℕ, ◌+◌, ◌-◌, List, Bool, true, get_or, eqb, ltb, leb}
use Prim.Native.Char.{code}
use Rattle.laws.specs.Choose.{pick, both}
use Rattle.text.specs.Numbers.{number_at}
use Rattle.text.specs.Typed.{unsigned_of}
use Rattle.text.specs.Places.{seek}
use Rattle.text.specs.Words.{word_at, spelled}
use Rattle.y4m.specs.Formats.{format_at}
use Rattle.y4m.specs.declared.header.Header.{Header}

-- a space at k, and then the letter
unfoldable pub tag_at : List ℕ → ℕ → ℕ → Bool
tag_at xs letter k = both (eqb (get_or xs k 0) 32) (eqb (get_or xs (k + 1) 0) letter)

-- a number of at most 4096 that starts with a digit, else 0
unfoldable pub size_at : List ℕ → ℕ → ℕ → ℕ
size_at xs at end =
    pick (leb end at) 0
    (pick (ltb (get_or xs at 0) 48) 0 (unsigned_of 4096 (number_at xs (record { at = at; end = end; good = true }))).value)

-- its first word
unfoldable pub opens_at : List ℕ → ℕ → Bool
opens_at xs end = both (eqb (get_or xs 0 0) (code "Y")) (eqb (word_at xs 1 end).value (spelled "UV4MPEG2"))

-- the line before a frame's samples
unfoldable pub frames_at : List ℕ → ℕ → Bool
frames_at xs end = eqb (word_at xs 0 end).value (spelled "FRAME")

unfoldable pub header_of : List ℕ → ℕ → Header
header_of xs end =
    record {
      opens = opens_at xs end;
      width = size_at xs (seek (tag_at xs (code "W")) 0 (end - 1) + 2) end;
      height = size_at xs (seek (tag_at xs (code "H")) 0 (end - 1) + 2) end;
      layout = format_at xs (seek (tag_at xs (code "C")) 0 (end - 1)) end;
    }
