-- How a text is walked one line at a time. Assumes nothing.
use mathlib.Core.Path.{◌≡◌, refl, sym, ap, ◌∙◌}
use mathlib.Core.List.{List}
use mathlib.Core.Bool.{true}
use Prim.Native.Nat.{ℕ, zero, suc, ◌+◌, ◌-◌, ◌≤◌, ◌<◌}
use native.Mathlib.Omega.{arith}
use borrow.Author.Tests.{lt-ltb, le-ltb}
use lib.ListN.{length}
use lib.Dec.{eqb, ltb}
use Rattle.laws.specs.Choose.{pick, pick_yes, pick_no, is_eq, not_eq}
use Rattle.text.specs.Places.{seek, newline_at, remark_at}
use Rattle.settings.specs.declared.kinds.Expected.{Expected}
use Rattle.settings.specs.Kinds.{expected_number}
use Rattle.settings.specs.declared.walk.Line.{Line}
use Rattle.settings.specs.declared.walk.Walk.{Walk}
use Rattle.settings.specs.Lines.{State, line_of}
use Rattle.settings.specs.Text.{Finding, Parsed, missing_of, ended, line_end, said_at, walk, parse_of}
use Rattle.settings.specs.Walked.{Stepped}
use Rattle.settings.proofs.Settling.{expected_some}
use Rattle.settings.proofs.Stepping.{line_end_is}

-- whole is what the lines say from the first one on; a text of n bytes has at most n lines, and line l is not the first of fewer
module _ (xs : List ℕ) (n at l : ℕ) (s : State) (whole : Parsed) (sized : n ≡ length xs) (inv : walk xs (n + 1 - l) at l s ≡ whole) where
  -- a line: e is its end, stop the end of what it says, k what was expected
  module _ (e stop k : ℕ) (s' : State) (here : at < n) (few : l ≤ at + 1) (ends : e ≡ seek (newline_at xs) at (n - at))
      (stops : stop ≡ seek (remark_at xs) at (e - at)) (said : record { state = s'; answer = k } ≡ line_of xs at stop s) where
    ending : e ≡ line_end xs at
    unfolding line_end
    ending = rw (← sized) ends

    saying : record { state = s'; answer = k } ≡ said_at xs at s
    unfolding said_at
    saying = rw (← ending, ← stops) said

    step : walk xs (n + 1 - l) at l s ≡ pick (eqb k 0) (walk xs (n + 1 - (l + 1)) (e + 1) (l + 1) s') (record { state = s'; fault = record { line = l; kind = k; at = at } })
    unfolding walk
    step =
        let m : n + 1 - l ≡ suc (n + 1 - (l + 1)) = omega arith in
        let t : true ≡ ltb at (length xs) = sym (lt-ltb at (length xs) (omega arith)) in
        rw m (sym (pick_yes _ _ _ _ t (rw (← ending, ← saying))))

    -- the next line starts at a, and is line m
    pub walk_on : (a m : ℕ) → k ≡ 0 → a ≡ e + 1 → m ≡ l + 1 → walk xs (n + 1 - m) a m s' ≡ whole
    walk_on a m h p q = rw (p, q) (pick_yes _ _ _ _ (is_eq k 0 h) refl ∙ sym step ∙ inv)

    pub walk_bad : (m : ℕ) → (k ≡ 0 → ⊥) → m ≡ l → record { state = s'; fault = record { line = m; kind = k; at = at } } ≡ whole
    walk_bad m h q = rw q (pick_no _ _ _ _ (not_eq k 0 h) refl ∙ sym step ∙ inv)

  -- no line is left
  module _ (k : ℕ) (past : n ≤ at) (missed : k ≡ missing_of s.places) where
    ended_is : record { state = s; fault = record { line = l; kind = k; at = at } } ≡ ended at l s
    unfolding ended
    ended_is = rw (← missed)

    over_is : (m : ℕ) → record { state = s; fault = record { line = l; kind = k; at = at } } ≡ walk xs m at l s
    unfolding walk
    over_is zero = ended_is
    over_is (suc m) = pick_no _ _ _ _ (sym (le-ltb at (length xs) (omega arith))) ended_is

    pub walk_end : (m : ℕ) → m ≡ l → record { state = s; fault = record { line = m; kind = k; at = at } } ≡ whole
    walk_end m q = rw q (over_is (n + 1 - l) ∙ inv)

-- the first line is line 1
pub walk_start : (xs : List ℕ) (n : ℕ) (s : State) {p : Parsed} → n ≡ length xs → p ≡ walk xs (n + 1 - 1) 0 1 s → p ≡ parse_of xs s
unfolding parse_of
walk_start xs n s e f = let m : n + 1 - 1 ≡ length xs = omega arith in f ∙ ap (λ (k : ℕ). walk xs k 0 1 s) m

-- ---- what an answer with its place says of the line's answer

pub amiss : (e : Expected) {line at l k a : ℕ} → ◌≡◌ {A = Finding} (record { line = line; kind = expected_number e; at = at }) (record { line = l; kind = k; at = a }) → k ≡ 0 → ⊥
amiss e h z = expected_some e (ap (λ (f : Finding). f.kind) h ∙ z)

pub good : {line at l k a : ℕ} → ◌≡◌ {A = Finding} (record { line = line; kind = 0; at = at }) (record { line = l; kind = k; at = a }) → k ≡ 0
good h = sym (ap (λ (f : Finding). f.kind) h)

pub parsed : {s : State} {f g : Finding} {p : Parsed} → f ≡ g → record { state = s; fault = g } ≡ p → record { state = s; fault = f } ≡ p
parsed e h = rw e h

-- ---- by the steps of a walk

module _ (xs : List ℕ) (w : Walk) (s : State) (whole : Parsed) (inv : walk xs (length xs + 1 - w.number) w.at w.number s ≡ whole) (few : w.number ≤ w.at + 1) where
  module _ (line : Line) (after : Walk) (t : Stepped xs w line after) (k : ℕ) (s' : State) (said : record { state = s'; answer = k } ≡ line_of xs line.at line.stop s) where
    pub walk_next : k ≡ 0 → walk xs (length xs + 1 - after.number) after.at after.number s' ≡ whole
    walk_next z =
        walk_on xs (length xs) w.at w.number s whole refl inv (line_end xs w.at) line.stop k s' t.here few (line_end_is xs w.at) t.stop (rw (← t.at) said) after.at after.number z t.next t.count

    pub walk_amiss : (k ≡ 0 → ⊥) → record { state = s'; fault = record { line = line.number; kind = k; at = line.at } } ≡ whole
    walk_amiss h =
        rw t.at (walk_bad xs (length xs) w.at w.number s whole refl inv (line_end xs w.at) line.stop k s' t.here few (line_end_is xs w.at) t.stop (rw (← t.at) said) line.number h t.number)

  pub walk_done : (after : Walk) (k : ℕ) → length xs ≤ w.at → after ≡ w → k ≡ missing_of s.places
      → record { state = s; fault = record { line = after.number; kind = k; at = after.at } } ≡ whole
  walk_done after k past same missed = rw same (walk_end xs (length xs) w.at w.number s whole refl inv k past missed w.number refl)
