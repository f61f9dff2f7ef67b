-- How the last line of each kind, and the line with a number of a kind, are found one line at a time. Assumes nothing.
use mathlib.Core.Path.{◌≡◌, refl, sym, ap, ◌∙◌}
use mathlib.Core.List.{List}
use mathlib.Core.Bool.{true}
use Prim.Native.Nat.{ℕ, zero, suc, ◌+◌, ◌-◌, ◌≤◌, ◌<◌}
use native.Mathlib.Omega.{arith}
use borrow.Author.Rules.{rules}
use borrow.Author.Tests.{lt-ltb, le-ltb}
use lib.ListN.{length, set}
use lib.Dec.{ltb}
use Rattle.std.specs.Prelude.{None, Some}
use Rattle.laws.specs.Choose.{pick, pick_yes, pick_no, is_lt, not_lt, is_eq, not_eq}
use Rattle.text.specs.declared.spell.Word.{Word}
use Rattle.text.specs.Places.{seek, newline_at, remark_at, ink_at}
use Rattle.text.specs.Words.{word_at, words_in}
use Rattle.settings.specs.declared.walk.Line.{Line}
use Rattle.settings.specs.declared.walk.Walk.{Walk}
use Rattle.settings.specs.Names.{kind_of}
use Rattle.settings.specs.Text.{line_end}
use Rattle.settings.specs.Numbered.{kind_to, kind_at, numbered, lines_of, numbers_to, numbers_at, holding, line_or_none, line_with}
use Rattle.settings.specs.Walked.{Stepped}
use Rattle.settings.proofs.Stepping.{line_end_is}

-- by the line's first word
pub kind_is : (xs : List ℕ) (from stop at k : ℕ) (w : Word) → at ≡ seek (ink_at xs) from (stop - from) → w ≡ word_at xs at stop → k ≡ kind_of w.value → k ≡ kind_to xs from stop
unfolding kind_to
kind_is xs from stop at k w e f g = g ∙ rw (← e, ← f)

-- whole is what the lines say from the first one on
module _ (xs : List ℕ) (n at l : ℕ) (lines whole : List ℕ) (sized : n ≡ length xs) (inv : numbered xs (n + 1 - l) at l lines ≡ whole) where
  -- a line: e is its end, stop the end of what it says, k its kind
  module _ (e stop k : ℕ) (here : at < n) (few : l ≤ at + 1) (ends : e ≡ seek (newline_at xs) at (n - at))
      (stops : stop ≡ seek (remark_at xs) at (e - at)) (said : k ≡ kind_to xs at stop) where
    ending : e ≡ line_end xs at
    unfolding line_end
    ending = rw (← sized) ends

    saying : k ≡ kind_at xs at
    unfolding kind_at
    saying = rw (← ending, ← stops) said

    step : numbered xs (n + 1 - l) at l lines ≡ numbered xs (n + 1 - (l + 1)) (e + 1) (l + 1) (set lines k l)
    unfolding numbered
    step =
        let m : n + 1 - l ≡ suc (n + 1 - (l + 1)) = omega arith in
        let t : true ≡ ltb at (length xs) = sym (lt-ltb at (length xs) (omega arith)) in
        rw m (sym (pick_yes _ _ _ _ t (rw (← ending, ← saying))))

    pub number_on : (a m : ℕ) → a ≡ e + 1 → m ≡ l + 1 → numbered xs (n + 1 - m) a m (set lines k l) ≡ whole
    number_on a m p q = rw (p, q) (sym step ∙ inv)

  -- no line is left
  module _ (past : n ≤ at) where
    over_is : (m : ℕ) → lines ≡ numbered xs m at l lines
    unfolding numbered
    over_is zero = refl
    over_is (suc m) = pick_no _ _ _ _ (sym (le-ltb at (length xs) (omega arith))) refl

    pub number_end : lines ≡ whole
    number_end = over_is (n + 1 - l) ∙ inv

-- the first line is line 1
pub number_start : (xs : List ℕ) (n : ℕ) (lines : List ℕ) {p : List ℕ} → n ≡ length xs → p ≡ numbered xs (n + 1 - 1) 0 1 lines → p ≡ lines_of xs lines
unfolding lines_of
number_start xs n lines e f = let m : n + 1 - 1 ≡ length xs = omega arith in f ∙ ap (λ (k : ℕ). numbered xs k 0 1 lines) m

pub ruleset numbering = (rules, number_on, number_end, number_start)

-- ---- the line with a number of a kind

-- the numbers of a line, by its kind k
module _ (xs : List ℕ) (kind at stop k : ℕ) (asked : k ≡ kind_to xs at stop) where
  pub numbers_none : (k ≡ kind → ⊥) → 0 ≡ numbers_to xs kind at stop
  unfolding numbers_to
  numbers_none h = pick_no _ _ _ _ (rw (← asked) (not_eq k kind h)) refl

  pub numbers_some : (words m : ℕ) → k ≡ kind → words ≡ words_in xs at stop → m ≡ words - 1 → m ≡ numbers_to xs kind at stop
  unfolding numbers_to
  numbers_some words m h e f = pick_yes _ _ _ _ (rw (← asked) (is_eq k kind h)) (rw (← e) f)

  pub numbers_empty : (words : ℕ) → k ≡ kind → words ≡ words_in xs at stop → words ≡ 0 → 0 ≡ numbers_to xs kind at stop
  numbers_empty words h e f = numbers_some words 0 h e (omega arith)

pub ruleset numbers_of = (rules, numbers_none, numbers_some, numbers_empty)

-- whole is the line that is found from the first one on
module _ (xs : List ℕ) (kind n at l left whole : ℕ) (sized : n ≡ length xs) (inv : holding xs kind (n + 1 - l) at l left ≡ whole) where
  -- a line: e is its end, stop the end of what it says, k how many numbers of the kind it has
  module _ (e stop k : ℕ) (here : at < n) (few : l ≤ at + 1) (ends : e ≡ seek (newline_at xs) at (n - at))
      (stops : stop ≡ seek (remark_at xs) at (e - at)) (said : k ≡ numbers_to xs kind at stop) where
    closing : e ≡ line_end xs at
    unfolding line_end
    closing = rw (← sized) ends

    numbering_said : k ≡ numbers_at xs kind at
    unfolding numbers_at
    numbering_said = rw (← closing, ← stops) said

    hold_step : holding xs kind (n + 1 - l) at l left ≡ pick (ltb left k) l (holding xs kind (n + 1 - (l + 1)) (e + 1) (l + 1) (left - k))
    unfolding holding
    hold_step =
        let m : n + 1 - l ≡ suc (n + 1 - (l + 1)) = omega arith in
        let t : true ≡ ltb at (length xs) = sym (lt-ltb at (length xs) (omega arith)) in
        rw m (sym (pick_yes _ _ _ _ t (rw (← closing, ← numbering_said))))

    pub hold_here : (m : ℕ) → left < k → m ≡ l → m ≡ whole
    hold_here m h q = q ∙ pick_yes _ _ _ _ (is_lt left k h) refl ∙ sym hold_step ∙ inv

    pub hold_on : (a m r : ℕ) → k ≤ left → a ≡ e + 1 → m ≡ l + 1 → r ≡ left - k → holding xs kind (n + 1 - m) a m r ≡ whole
    hold_on a m r h p q s = rw (p, q, s) (pick_no _ _ _ _ (not_lt left k h) refl ∙ sym hold_step ∙ inv)

  -- no line is left
  module _ (past : n ≤ at) where
    none_is : (m : ℕ) → 0 ≡ holding xs kind m at l left
    unfolding holding
    none_is zero = refl
    none_is (suc m) = pick_no _ _ _ _ (sym (le-ltb at (length xs) (omega arith))) refl

    pub hold_end : 0 ≡ whole
    hold_end = none_is (n + 1 - l) ∙ inv

pub hold_start : (xs : List ℕ) (kind n number : ℕ) {p : ℕ} → n ≡ length xs → p ≡ holding xs kind (n + 1 - 1) 0 1 number → p ≡ line_with xs kind number
unfolding line_with
hold_start xs kind n number e f = let m : n + 1 - 1 ≡ length xs = omega arith in f ∙ ap (λ (k : ℕ). holding xs kind k 0 1 number) m

pub ruleset holdings = (rules, hold_here, hold_on, hold_end, hold_start)

-- lines count from 1
pub line_some : (l m : ℕ) → 1 ≤ l → l ≡ m → Some l ≡ line_or_none m
line_some zero m h e = absurd (omega arith)
line_some (suc l) m h e = rw (← e)

pub line_none : (m : ℕ) → 0 ≡ m → None ≡ line_or_none m
line_none m e = rw (← e)

-- ---- by the steps of a walk

module _ (xs : List ℕ) (w : Walk) (few : w.number ≤ w.at + 1) where
  module _ (lines whole : List ℕ) (inv : numbered xs (length xs + 1 - w.number) w.at w.number lines ≡ whole) where
    pub number_next : (line : Line) (after : Walk) → Stepped xs w line after → (k : ℕ) → k ≡ kind_to xs line.at line.stop
        → numbered xs (length xs + 1 - after.number) after.at after.number (set lines k line.number) ≡ whole
    number_next line after t k said =
        rw t.number (number_on xs (length xs) w.at w.number lines whole refl inv (line_end xs w.at) line.stop k t.here few (line_end_is xs w.at) t.stop (rw (← t.at) said) after.at after.number t.next t.count)

    pub number_done : length xs ≤ w.at → lines ≡ whole
    number_done past = number_end xs (length xs) w.at w.number lines whole refl inv past

  module _ (kind left whole : ℕ) (inv : holding xs kind (length xs + 1 - w.number) w.at w.number left ≡ whole) where
    module _ (line : Line) (after : Walk) (t : Stepped xs w line after) (k : ℕ) (said : k ≡ numbers_to xs kind line.at line.stop) where
      pub hold_next : k ≤ left → holding xs kind (length xs + 1 - after.number) after.at after.number (left - k) ≡ whole
      hold_next h =
          hold_on xs kind (length xs) w.at w.number left whole refl inv (line_end xs w.at) line.stop k t.here few (line_end_is xs w.at) t.stop (rw (← t.at) said) after.at after.number (left - k) h t.next t.count refl

      pub hold_found : left < k → line.number ≡ whole
      hold_found h =
          hold_here xs kind (length xs) w.at w.number left whole refl inv (line_end xs w.at) line.stop k t.here few (line_end_is xs w.at) t.stop (rw (← t.at) said) line.number h t.number

    pub hold_done : length xs ≤ w.at → 0 ≡ whole
    hold_done past = hold_end xs kind (length xs) w.at w.number left whole refl inv past
