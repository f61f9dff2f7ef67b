-- The smallest settings text, `settings 1` and `qindex 160`, read by the definitions alone. Assumes nothing.
use mathlib.Core.Path.{◌≡◌, refl}
use mathlib.Core.List.{List, [], ◌∷◌}
use Prim.Native.Nat.{ℕ}
use lib.IntN.{pos}
use Rattle.laws.specs.Choose.{pick, both, either, all}
use Rattle.laws.specs.Loops.{each}
use Rattle.text.specs.Places.{seek, newline_at, remark, remark_at, blank_of, ink_at}
use Rattle.text.specs.Words as Words
use Rattle.text.specs.Digits as Digits
use Rattle.text.specs.Numbers.{nothing, past, ends, closed, signed_at, number_at}
use Rattle.text.specs.Typed.{unsigned_of, from_zero, signed_of}
use Rattle.settings.specs.Names.{kind_of}
use Rattle.settings.specs.Rules.{leaf_room, rule_of, first_places}
use Rattle.settings.specs.Values.{read_signed, read_up_to, skipped, goes_on, taken, taken_to}
use Rattle.settings.specs.Lines.{State, lists, in_numbers, in_shorts, take_of, start_of, count_right, whole_of, is_one, version_bad, flag_bad, verdict_of, settled, judged, ruled, fill_of, too_soon, setting_of, named_of, inked_of, line_of}
use Rattle.settings.specs.Text.{alone_of, missing_of, ended, line_end, said_at, walk, parse_of}

-- settings 1, a newline, qindex 160
abbrev smallest : List ℕ
smallest =
    115 ∷ 101 ∷ 116 ∷ 116 ∷ 105 ∷ 110 ∷ 103 ∷ 115 ∷ 32 ∷ 49 ∷ 10
    ∷ 113 ∷ 105 ∷ 110 ∷ 100 ∷ 101 ∷ 120 ∷ 32 ∷ 49 ∷ 54 ∷ 48 ∷ []

-- room for one number of each sort
abbrev start : State
start = record { lists = lists (pos 0 ∷ []) (0 ∷ []) (0 ∷ []) (0 ∷ []) (pos 0 ∷ []); places = first_places 1 }

-- no fault after two lines, the version and the qindex stand in their lists
pub smallest_read :
    ((parse_of smallest start).fault ≡ record { line = 3; kind = 0; at = 22 })
    × ((parse_of smallest start).state.lists ≡ lists (pos 1 ∷ []) (160 ∷ []) (0 ∷ []) (0 ∷ []) (pos 0 ∷ []))
unfolding parse_of walk ended missing_of alone_of line_end said_at line_of inked_of named_of setting_of too_soon fill_of ruled judged settled verdict_of version_bad is_one flag_bad whole_of count_right start_of take_of in_numbers in_shorts taken_to taken skipped goes_on read_signed read_up_to kind_of leaf_room rule_of first_places each
    pick both either all seek newline_at remark remark_at blank_of ink_at Words.word_at Words.ended_at Words.read_letters Words.goes_on Digits.read_digits Digits.goes_on nothing past ends closed signed_at number_at unsigned_of from_zero signed_of
smallest_read = (refl, refl)
