-- How a run of digits is read one digit at a time. Assumes nothing.
use mathlib.Core.Path.{◌≡◌, refl, sym, ◌∙◌}
use mathlib.Core.List.{List}
use mathlib.Core.Bool.{Bool, true, false, not}
use Prim.Native.Nat.{ℕ, suc, ◌+◌, ◌-◌, ◌*◌, ◌≤◌, ◌<◌}
use native.Mathlib.Omega.{arith}
use native.Mathlib.Numerals.{add-one}
use borrow.Author.Rules.{rules}
use borrow.Author.Tests.{ltb-true, ltb-false, lt-ltb, le-ltb, not-true, not-false}
use lib.ListN.{get_or}
use lib.Dec.{ltb}
use Rattle.std.proofs.Common.{◌⊎◌, inl, inr}
use Rattle.text.specs.declared.number.Run.{Run}
use Rattle.text.specs.Digits.{goes_on, read_digits, both, opposite}

-- what it is that goes on: a digit, with room for it
pub record Goes (b value : ℕ) : Type 0 where
  pub low : 48 ≤ b
  pub high : b ≤ 57
  pub room : value < 100000000000000000

pub goes : (b value : ℕ) → goes_on b value ≡ true → Goes b value
unfolding goes_on
goes b value = go (ltb b 48) (ltb 57 b) (ltb value 100000000000000000) refl refl refl
  where
    no : {A : Type 0} → false ≡ true → A
    no e = let z : ◌≡◌ {A = ℕ} 0 1 = cc in absurd (omega arith)

    go : (p q r : Bool) → ltb b 48 ≡ p → ltb 57 b ≡ q → ltb value 100000000000000000 ≡ r → both (opposite p) (both (opposite q) r) ≡ true → Goes b value
    go false false true e f g h = record { low = ltb-false _ _ e; high = ltb-false _ _ f; room = ltb-true _ _ g }
    go false false false e f g h = no h
    go false true r e f g h = no h
    go true q r e f g h = no h

-- a digit goes on where there is room, and nothing else does
pub digit_yes : (b value : ℕ) → (48 ≤ b) × (b ≤ 57) → ltb value 100000000000000000 ≡ goes_on b value
unfolding goes_on
digit_yes b value h = rw (le-ltb _ _ h.0, le-ltb _ _ h.1)

pub digit_no : (b value : ℕ) → (b < 48) ⊎ (57 < b) → false ≡ goes_on b value
unfolding goes_on
digit_no b value (inl h) = rw (lt-ltb _ _ h)
digit_no b value (inr h) = let g : 48 ≤ b = omega arith in rw (le-ltb _ _ g, lt-ltb _ _ h)

module _ (xs : List ℕ) (value at end : ℕ) where
  -- one more digit
  pub digits_more : at < end → goes_on (get_or xs at 0) value ≡ true → read_digits xs value at (end - at) ≡ read_digits xs (10 * value + (get_or xs at 0 - 48)) (at + 1) (end - (at + 1))
  unfolding read_digits
  digits_more h e = let n : end - at ≡ suc (end - (at + 1)) = omega arith in rw (n, e, add-one)

  -- a byte that is no digit
  pub digits_stop : at < end → goes_on (get_or xs at 0) value ≡ false → read_digits xs value at (end - at) ≡ record { value = value; next = at }
  unfolding read_digits
  digits_stop h e = let n : end - at ≡ suc (end - (at + 1)) = omega arith in rw (n, e)

  -- nothing is left
  pub digits_end : end ≤ at → read_digits xs value at (end - at) ≡ record { value = value; next = at }
  unfolding read_digits
  digits_end h = let n : end - at ≡ 0 = omega arith in rw n

-- the loop's turns: whole is what the run is from its first digit on
module _ (xs : List ℕ) (value at end : ℕ) (whole : Run) (on : Bool) (asked : on ≡ goes_on (get_or xs at 0) value) where
  pub turn_more : (more : ℕ) → at < end → not on ≡ false → more ≡ 10 * value + (get_or xs at 0 - 48) → read_digits xs value at (end - at) ≡ whole → read_digits xs more (at + 1) (end - (at + 1)) ≡ whole
  turn_more more h left e inv = rw e (sym (digits_more xs value at end h (sym asked ∙ not-false on left)) ∙ inv)

  pub turn_stop : at < end → not on ≡ true → read_digits xs value at (end - at) ≡ whole → record { value = value; next = at } ≡ whole
  turn_stop h taken inv = sym (digits_stop xs value at end h (sym asked ∙ not-true on taken)) ∙ inv

pub turn_end : (xs : List ℕ) (value at end : ℕ) (whole : Run) → at ≤ end → end ≤ at → read_digits xs value at (end - at) ≡ whole → record { value = value; next = end } ≡ whole
turn_end xs value at end whole g h inv = let e : end ≡ at = omega arith in rw e (sym (digits_end xs value at end h) ∙ inv)

-- what a digit that goes on asks of its reader
pub goes_asked : (b value : ℕ) (on : Bool) → on ≡ goes_on b value → not on ≡ false → goes_on b value ≡ true
goes_asked b value on e left = sym e ∙ not-false on left

pub ruleset runs = (rules, turn_more, turn_stop, turn_end, goes_asked)
