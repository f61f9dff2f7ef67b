-- How a word's letters are read one at a time. Assumes nothing.
use mathlib.Core.Path.{◌≡◌, sym, ◌∙◌}
use mathlib.Core.List.{List}
use mathlib.Core.Bool.{Bool, true, false, not}
use Prim.Native.Nat.{ℕ, suc, ◌+◌, ◌-◌, ◌*◌, ◌≤◌, ◌<◌}
use native.Mathlib.Omega.{arith}
use native.Mathlib.Numerals.{add-one}
use borrow.Author.Rules.{rules}
use borrow.Author.Tests.{ltb-true, lt-ltb, le-ltb, not-true, not-false}
use lib.ListN.{get_or}
use lib.Dec.{leb, ltb}
use Rattle.laws.specs.Choose.{pick, both_parts}
use Rattle.text.specs.declared.spell.Word.{Word}
use Rattle.text.specs.Places.{blank_of}
use Rattle.text.specs.Words.{goes_on, read_letters, ended_at, word_at}

-- what goes on has room for a letter
pub goes_room : (b value : ℕ) → goes_on b value ≡ true → value < 72057594037927936
unfolding goes_on
goes_room b value e = ltb-true _ _ (both_parts (not (leb b 32)) (ltb value 72057594037927936) e).1

-- the loop's turns: whole is what the letters are from the first one on
module _ (xs : List ℕ) (value at end : ℕ) (whole : Word) (on : Bool) (asked : on ≡ goes_on (get_or xs at 0) value) where
  pub turn_more : (more : ℕ) → at < end → not on ≡ false → more ≡ 256 * value + get_or xs at 0 → read_letters xs value at (end - at) ≡ whole → read_letters xs more (at + 1) (end - (at + 1)) ≡ whole
  unfolding read_letters pick
  turn_more more h left e inv =
      let n : end - at ≡ suc (end - (at + 1)) = omega arith in
      let t : goes_on (get_or xs at 0) value ≡ true = sym asked ∙ not-false on left in
      let g : read_letters xs value at (end - at) ≡ read_letters xs more (at + 1) (end - (at + 1)) = rw (n, t, add-one, e) in
      sym g ∙ inv

  pub turn_stop : at < end → not on ≡ true → read_letters xs value at (end - at) ≡ whole → record { value = value; next = at } ≡ whole
  unfolding read_letters pick
  turn_stop h taken inv =
      let n : end - at ≡ suc (end - (at + 1)) = omega arith in
      let t : goes_on (get_or xs at 0) value ≡ false = sym asked ∙ not-true on taken in
      let g : read_letters xs value at (end - at) ≡ record { value = value; next = at } = rw (n, t) in
      sym g ∙ inv

pub turn_end : (xs : List ℕ) (value at end : ℕ) (whole : Word) → at ≤ end → end ≤ at → read_letters xs value at (end - at) ≡ whole → record { value = value; next = end } ≡ whole
unfolding read_letters
turn_end xs value at end whole g h inv =
    let n : end - at ≡ 0 = omega arith in
    let e : end ≡ at = omega arith in
    let s : read_letters xs value at (end - at) ≡ record { value = value; next = end } = rw (n, e) in
    sym s ∙ inv

-- what a letter that goes on asks of its reader
pub goes_asked : (b value : ℕ) (on : Bool) → on ≡ goes_on b value → not on ≡ false → goes_on b value ≡ true
goes_asked b value on e left = sym e ∙ not-false on left

-- how the letters end: in another byte, in a space or a tab, with the line
module _ (xs : List ℕ) (from end : ℕ) (w : Word) (read : w ≡ read_letters xs 0 from (end - from)) where
  pub word_cut : (r : Bool) → w.next < end → r ≡ blank_of (get_or xs w.next 0) → not r ≡ true → record { value = 0; next = w.next } ≡ word_at xs from end
  unfolding word_at ended_at pick
  word_cut r h e f = rw (← read, lt-ltb _ _ h, ← e, not-true r f)

  pub word_space : (r : Bool) → w.next < end → r ≡ blank_of (get_or xs w.next 0) → not r ≡ false → w ≡ word_at xs from end
  unfolding word_at ended_at pick
  word_space r h e f = rw (← read, lt-ltb _ _ h, ← e, not-false r f)

  pub word_last : end ≤ w.next → w ≡ word_at xs from end
  unfolding word_at ended_at pick
  word_last h = rw (← read, le-ltb _ _ h)

pub ruleset spelling = (rules, turn_more, turn_stop, turn_end, goes_asked, word_cut, word_space, word_last)
