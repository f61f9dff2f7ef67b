-- Which line of a settings text has a setting, or one of its numbers. Assumes nothing.
use Rattle.std.specs.Prelude.{ℕ, zero, suc, Option, None, Some, ◌+◌, ◌-◌, List, length, set, eqb, ltb}
use Rattle.laws.specs.Choose.{pick}
use Rattle.text.specs.Places.{seek, remark_at, ink_at}
use Rattle.text.specs.Words.{word_at, words_in}
use Rattle.settings.specs.Names.{kind_of}
use Rattle.settings.specs.Text.{line_end}

-- ---- the last line of each setting

-- the kind of the line that starts at a place and says something up to stop; 0 where it is none
unfoldable pub kind_to : List ℕ → ℕ → ℕ → ℕ
kind_to xs at stop = kind_of (word_at xs (seek (ink_at xs) at (stop - at)) stop).value

unfoldable pub kind_at : List ℕ → ℕ → ℕ
kind_at xs at = kind_to xs at (seek (remark_at xs) at (line_end xs at - at))

-- for each kind the last line that has it, among the lines from a place on, of which there are at most n, the first of them line l
unfoldable pub numbered : List ℕ → ℕ → ℕ → ℕ → List ℕ → List ℕ
numbered xs zero at l lines = lines
numbered xs (suc n) at l lines =
    pick (ltb at (length xs)) (numbered xs n (line_end xs at + 1) (l + 1) (set lines (kind_at xs at) l)) lines

unfoldable pub lines_of : List ℕ → List ℕ → List ℕ
lines_of xs lines = numbered xs (length xs) 0 1 lines

-- ---- the line that has a number of a setting

-- how many numbers the line that starts at a place has up to stop, where it is of a kind: its words but the name
unfoldable pub numbers_to : List ℕ → ℕ → ℕ → ℕ → ℕ
numbers_to xs kind at stop = pick (eqb (kind_to xs at stop) kind) (words_in xs at stop - 1) 0

unfoldable pub numbers_at : List ℕ → ℕ → ℕ → ℕ
numbers_at xs kind at = numbers_to xs kind at (seek (remark_at xs) at (line_end xs at - at))

-- the first line with more numbers of a kind than are left, among the lines from a place on, of which there are at most n, the first of them line l; 0 where there is none
unfoldable pub holding : List ℕ → ℕ → ℕ → ℕ → ℕ → ℕ → ℕ
holding xs kind zero at l left = 0
holding xs kind (suc n) at l left =
    pick (ltb at (length xs))
    (pick (ltb left (numbers_at xs kind at)) l (holding xs kind n (line_end xs at + 1) (l + 1) (left - numbers_at xs kind at)))
    0

-- a number of a kind is counted from 0 over all lines of that kind
unfoldable pub line_with : List ℕ → ℕ → ℕ → ℕ
line_with xs kind number = holding xs kind (length xs) 0 1 number

-- lines count from 1: 0 is none
abbrev pub line_or_none : ℕ → Option ℕ
line_or_none zero = None
line_or_none (suc l) = Some (suc l)
