-- What one line of a settings text says: the lists after it, and whether it is as it should be. Assumes nothing.
use Rattle.std.specs.Prelude.{ℕ, Option, None, Some, ◌-◌, ◌≡◌, List, [], ◌∷◌, Bool, true, false, not, length, get_or, set, ℤ, pos, negsuc, eqb, leb, ltb}
use Rattle.laws.specs.Choose.{pick, both, all}
use Rattle.text.specs.declared.spell.Word.{Word}
use Rattle.text.specs.Places.{seek, ink_at}
use Rattle.text.specs.Words.{word_at}
use Rattle.text.specs.declared.number.Cursor.{Cursor}
use Rattle.settings.specs.declared.file.Settings.{Settings}
use Rattle.settings.specs.declared.names.Destination.{Destination}
use Rattle.settings.specs.declared.names.Destination.TheVariants.{Numbers, Shorts, Steps, Flags, Offsets, Tiles}
use Rattle.settings.specs.declared.names.Rule.{Rule}
use Rattle.settings.specs.declared.values.Taken.{Taken}
use Rattle.settings.specs.Names.{kind_of}
use Rattle.settings.specs.Rules.{rule_of}
use Rattle.settings.specs.Values.{Put, read_signed, read_up_to, read_offset, taken_to}

-- the five lists of numbers
pub record Lists : Type 0 where
  pub numbers : List ℤ
  pub shorts : List ℕ
  pub steps : List ℕ
  pub flags : List ℕ
  pub offsets : List ℤ

-- the lists, and the place after the last number of each kind
pub record State : Type 0 where
  pub lists : Lists
  pub places : List ℕ

abbrev pub lists : List ℤ → List ℕ → List ℕ → List ℕ → List ℤ → Lists
lists numbers shorts steps flags offsets = record { numbers = numbers; shorts = shorts; steps = steps; flags = flags; offsets = offsets }

abbrev pub state : List ℤ → List ℕ → List ℕ → List ℕ → List ℤ → List ℕ → State
state numbers shorts steps flags offsets places = record { lists = lists numbers shorts steps flags offsets; places = places }

-- what the lent lists and places hold
abbrev pub lent : Settings → State
lent s = state s.numbers.now s.shorts.now s.steps.now s.flags.now s.offsets.now s.places.now

-- the lists and places are those that were lent
pub record Lent (before after : Settings) : Type 0 where
  pub numbers : after.numbers.ghost_name ≡ before.numbers.ghost_name
  pub shorts : after.shorts.ghost_name ≡ before.shorts.ghost_name
  pub steps : after.steps.ghost_name ≡ before.steps.ghost_name
  pub flags : after.flags.ghost_name ≡ before.flags.ghost_name
  pub offsets : after.offsets.ghost_name ≡ before.offsets.ghost_name
  pub places : after.places.ghost_name ≡ before.places.ghost_name

-- every list is as long as it was
pub record Kept (before after : Lists) : Type 0 where
  pub numbers : length after.numbers ≡ length before.numbers
  pub shorts : length after.shorts ≡ length before.shorts
  pub steps : length after.steps ≡ length before.steps
  pub flags : length after.flags ≡ length before.flags
  pub offsets : length after.offsets ≡ length before.offsets

-- ---- a line's numbers

-- the lists with the numbers put there, the place after the last one, and what is left of the line
pub record Filled : Type 0 where
  pub lists : Lists
  pub left : Taken

unfoldable pub in_numbers : Lists → Put ℤ → Filled
in_numbers s p = record { lists = lists p.list s.shorts s.steps s.flags s.offsets; left = p.left }

unfoldable pub in_shorts : Lists → Put ℕ → Filled
in_shorts s p = record { lists = lists s.numbers p.list s.steps s.flags s.offsets; left = p.left }

unfoldable pub in_steps : Lists → Put ℕ → Filled
in_steps s p = record { lists = lists s.numbers s.shorts p.list s.flags s.offsets; left = p.left }

unfoldable pub in_flags : Lists → Put ℕ → Filled
in_flags s p = record { lists = lists s.numbers s.shorts s.steps p.list s.offsets; left = p.left }

unfoldable pub in_offsets : Lists → Put ℤ → Filled
in_offsets s p = record { lists = lists s.numbers s.shorts s.steps s.flags p.list; left = p.left }

-- the numbers from a line's place on, into the list where they go, from from up to end
unfoldable pub take_of : List ℕ → Cursor → Destination → ℕ → ℕ → Lists → Filled
take_of xs c Numbers from end s = in_numbers s (taken_to xs (read_signed xs) s.numbers from end c)
take_of xs c Shorts from end s = in_shorts s (taken_to xs (read_up_to 65535 xs) s.shorts from end c)
take_of xs c Steps from end s = in_steps s (taken_to xs (read_up_to 4294967295 xs) s.steps from end c)
take_of xs c Flags from end s = in_flags s (taken_to xs (read_up_to 1 xs) s.flags from end c)
take_of xs c Offsets from end s = in_offsets s (taken_to xs (read_offset xs) s.offsets from end c)
take_of xs c Tiles from end s = in_shorts s (taken_to xs (read_up_to 65535 xs) s.shorts from end c)

-- ---- whether they are as they should be

-- signed numbers and tile starts stand at places of their own, so that a line replaces the one before; others go on after those before them
unfoldable pub start_of : Destination → ℕ → ℕ → ℕ
start_of Numbers from place = from
start_of Shorts from place = place
start_of Steps from place = place
start_of Flags from place = place
start_of Offsets from place = place
start_of Tiles from place = from

-- as many numbers as a line of the kind should have, or at least one where that is not settled
unfoldable pub count_right : Option ℕ → ℕ → Bool
count_right None n = ltb 0 n
count_right (Some each) n = eqb n each

-- every number was there, the line was read to its end, and it had as many as it should
unfoldable pub whole_of : Taken → ℕ → Option ℕ → Bool
whole_of t from each = all (t.rest.good ∷ leb t.rest.end t.rest.at ∷ count_right each (t.at - from) ∷ [])

unfoldable pub is_one : ℤ → Bool
is_one (pos n) = eqb n 1
is_one (negsuc n) = false

-- the version is the first signed number, and must be 1
unfoldable pub version_bad : ℕ → List ℤ → Bool
version_bad kind numbers = both (eqb kind 1) (not (is_one (get_or numbers 0 (pos 0))))

unfoldable pub is_flag : ℤ → Bool
is_flag (pos n) = leb n 1
is_flag (negsuc n) = false

-- whether chroma is deblocked is the signed number at place 7, and must be 0 or 1
unfoldable pub flag_bad : ℕ → List ℤ → Bool
flag_bad kind numbers = both (eqb kind 11) (not (is_flag (get_or numbers 7 (pos 0))))

-- 0, or the kind that was expected
unfoldable pub verdict_of : Taken → ℕ → Option ℕ → ℕ → List ℤ → ℕ
verdict_of t from each kind numbers =
    pick (whole_of t from each) (pick (version_bad kind numbers) 1 (pick (flag_bad kind numbers) 11 0)) kind

-- ---- the line

-- what a line leaves: the lists and places, and 0 or the kind that was expected
pub record Said : Type 0 where
  pub state : State
  pub answer : ℕ

-- the lists stay as filled; the kind's place moves on where the line was good
unfoldable pub settled : ℕ → List ℕ → Filled → ℕ → Said
settled kind places t answer =
    record { state = record { lists = t.lists; places = pick (eqb answer 0) (set places kind t.left.at) places }; answer = answer }

-- the numbers of a line of a kind, where they start and how they are judged
unfoldable pub judged : ℕ → ℕ → Option ℕ → List ℕ → Filled → Said
judged kind from each places t = settled kind places t (verdict_of t.left from each kind t.lists.numbers)

-- they go where the kind's rule says
unfoldable pub ruled : List ℕ → Cursor → ℕ → Rule → ℕ → State → Said
ruled xs c kind rule from s = judged kind from rule.each s.places (take_of xs c rule.list from rule.end s.lists)

-- the kind's rule, by how many short numbers there are
abbrev pub rule_for : ℕ → State → Rule
rule_for kind s = rule_of (length s.lists.shorts) kind

-- from a place of the line up to its end
unfoldable pub fill_of : List ℕ → ℕ → ℕ → ℕ → State → Said
fill_of xs at end kind s =
    ruled xs (record { at = at; end = end; good = true }) kind (rule_for kind s)
    (start_of (rule_for kind s).list (rule_for kind s).from (get_or s.places kind 0)) s

-- `settings`, kind 1, stands before any other: its place moves from 0 on
unfoldable pub too_soon : ℕ → ℕ → Bool
too_soon kind first = both (not (eqb kind 1)) (eqb first 0)

-- a line after its name
unfoldable pub setting_of : List ℕ → ℕ → ℕ → ℕ → State → Said
setting_of xs at end kind s = pick (too_soon kind (get_or s.places 1 0)) (record { state = s; answer = 1 }) (fill_of xs at end kind s)

-- 24 stands for any name
unfoldable pub named_of : List ℕ → ℕ → Word → State → Said
named_of xs end w s = pick (eqb (kind_of w.value) 0) (record { state = s; answer = 24 }) (setting_of xs w.next end (kind_of w.value) s)

-- from a first byte that is no space on; an empty line says nothing
unfoldable pub inked_of : List ℕ → ℕ → ℕ → State → Said
inked_of xs at end s = pick (eqb at end) (record { state = s; answer = 0 }) (named_of xs end (word_at xs at end) s)

-- the bytes from from up to end
unfoldable pub line_of : List ℕ → ℕ → ℕ → State → Said
line_of xs from end s = inked_of xs (seek (ink_at xs) from (end - from)) end s
