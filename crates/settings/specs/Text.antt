-- What a settings text says, line by line, up to the first line that is not as it should be. Assumes nothing.
use Rattle.std.specs.Prelude.{ℕ, zero, suc, Result, Ok, Err, ◌+◌, ◌-◌, List, Bool, not, length, get_or, eqb, ltb}
use Rattle.laws.specs.Choose.{pick, both}
use Rattle.text.specs.Places.{seek, newline_at, remark_at}
use Rattle.settings.specs.declared.file.Fault.{Fault}
use Rattle.settings.specs.declared.file.Place.{Place}
use Rattle.settings.specs.Kinds.{expected_number}
use Rattle.settings.specs.Lines.{State, Said, line_of}

-- a line, the number of what was expected there, 0 where nothing is amiss, and the place where it starts
pub record Finding : Type 0 where
  pub line : ℕ
  pub kind : ℕ
  pub at : ℕ

-- what an answer says
abbrev pub found : Result Place Fault → Finding
found (Ok place) = record { line = place.line; kind = 0; at = place.at }
found (Err fault) = record { line = fault.place.line; kind = expected_number fault.expected; at = fault.place.at }

-- the lists and places, and the line with what was expected there
pub record Parsed : Type 0 where
  pub state : State
  pub fault : Finding

-- a plane's offsets were read, and its CCSO numbers were not: the one place moved on, the other did not
unfoldable pub alone_of : ℕ → ℕ → ℕ → ℕ → Bool
alone_of ccso none offsets first = both (eqb ccso none) (not (eqb offsets first))

-- where every line was good: `settings` must be there, kind 1, a qindex, kind 2, and CCSO numbers, kinds 12 to 14, for each plane's offsets
unfoldable pub missing_of : List ℕ → ℕ
missing_of places =
    pick (eqb (get_or places 1 0) 0) 1
    (pick (eqb (get_or places 2 0) 0) 2
    (pick (alone_of (get_or places 12 0) 16 (get_or places 18 0) 0) 12
    (pick (alone_of (get_or places 13 0) 32 (get_or places 19 0) 128) 13
    (pick (alone_of (get_or places 14 0) 48 (get_or places 20 0) 256) 14
    0))))

unfoldable pub ended : ℕ → ℕ → State → Parsed
ended at l s = record { state = s; fault = record { line = l; kind = missing_of s.places; at = at } }

-- the line that starts at a place ends with a newline or the text, and what it says ends with that or a remark
unfoldable pub line_end : List ℕ → ℕ → ℕ
line_end xs at = seek (newline_at xs) at (length xs - at)

unfoldable pub said_at : List ℕ → ℕ → State → Said
said_at xs at s = line_of xs at (seek (remark_at xs) at (line_end xs at - at)) s

-- the lines from a place on, of which there are at most n, the first of them line l
unfoldable pub walk : List ℕ → ℕ → ℕ → ℕ → State → Parsed
walk xs zero at l s = ended at l s
walk xs (suc n) at l s =
    pick (ltb at (length xs))
    (pick (eqb (said_at xs at s).answer 0)
    (walk xs n (line_end xs at + 1) (l + 1) (said_at xs at s).state)
    (record { state = (said_at xs at s).state; fault = record { line = l; kind = (said_at xs at s).answer; at = at } }))
    (ended at l s)

-- lines count from 1, and a text has no more of them than bytes
unfoldable pub parse_of : List ℕ → State → Parsed
parse_of xs s = walk xs (length xs) 0 1 s
