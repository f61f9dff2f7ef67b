-- How a line's numbers are put into a list one at a time, for every sort of them. Assumes nothing.
use mathlib.Core.Path.{◌≡◌, sym, ◌∙◌}
use mathlib.Core.List.{List}
use mathlib.Core.Bool.{Bool, true, false}
use Prim.Native.Nat.{ℕ, suc, ◌+◌, ◌-◌, ◌≤◌, ◌<◌, min}
use native.Mathlib.Omega.{arith}
use native.Mathlib.Numerals.{add-one}
use borrow.Author.Rules.{rules}
use borrow.Author.Tests.{lt-ltb, le-ltb}
use lib.ListN.{length, set}
use lib.IntN.{ℤ}
use mir.Syntax.{w8, w32}
use mir.Val.{SFits, to_z, of_z}
use mir.Facts.{to_z-of_z}
use Rattle.laws.specs.Choose.{pick}
use Rattle.text.specs.Places.{seek, ink_at}
use Rattle.text.specs.declared.number.Cursor.{Cursor}
use Rattle.text.specs.declared.number.Number.{Number}
use Rattle.text.specs.declared.typed.Signed.{Signed}
use Rattle.text.specs.declared.typed.Unsigned.{Unsigned}
use Rattle.text.specs.Numbers.{number_at}
use Rattle.text.specs.Typed.{signed_of, unsigned_of}
use Rattle.settings.specs.declared.values.Read.{Read}
use Rattle.settings.specs.Values.{Put, read_signed, read_up_to, read_offset, offset_of, offset_rest, skipped, goes_on, taken, taken_to}

-- a line that is not in the text, and one that is
module _ (xs : List ℕ) (c : Cursor) where
  pub skip_beyond : length xs < c.end → c ≡ skipped xs c
  unfolding skipped pick
  skip_beyond h = rw (lt-ltb _ _ h)

  pub skip_past : c.end ≤ length xs → c.end < c.at → c ≡ skipped xs c
  unfolding skipped pick
  skip_past h g = rw (le-ltb _ _ h, lt-ltb _ _ g)

  pub skip_within : (at : ℕ) → c.end ≤ length xs → c.at ≤ c.end → at ≡ seek (ink_at xs) c.at (c.end - c.at)
      → record { at = at; end = c.end; good = c.good } ≡ skipped xs c
  unfolding skipped pick
  skip_within at h g e = rw (le-ltb _ _ h, le-ltb _ _ g, ← e)

pub ruleset skipping = (rules, skip_beyond, skip_past, skip_within)

-- a number as the callee read it, and what is left after it
module _ (xs : List ℕ) (c : Cursor) where
  pub signed_is : (n : Signed) → n ≡ signed_of (number_at xs c) → SFits w32 n.value → record { value = to_z w32 (of_z w32 n.value); rest = n.rest } ≡ read_signed xs c
  unfolding read_signed
  signed_is n e f = rw (to_z-of_z f, e)

  pub unsigned_is : (most : ℕ) (n : Unsigned) → n ≡ unsigned_of most (number_at xs c) → record { value = n.value; rest = n.rest } ≡ read_up_to most xs c
  unfolding read_up_to
  unsigned_is most n e = rw e

  pub offset_is : (n : Number) (v : ℤ) (r : Cursor) → n ≡ number_at xs c → v ≡ offset_of n.negative n.size → SFits w8 v → r ≡ offset_rest n
      → record { value = to_z w8 (of_z w8 v); rest = r } ≡ read_offset xs c
  unfolding read_offset
  offset_is n v r e f g h = rw (to_z-of_z g, f, h, e)

pub ruleset reading = (rules, signed_is, unsigned_is, offset_is)

-- the loop's turns: whole is what is put there from the first number on, m is whether a number is to be read
module _ {A : Type 0} (xs : List ℕ) (read : Cursor → Read A) (stop : ℕ) (whole : Put A) (list : List A) (at : ℕ) (c : Cursor)
    (inv : taken xs read (stop - at) list at c ≡ whole) where
  pub take_more : {m : Bool} {v : A} {r s : Cursor} → at < stop → m ≡ goes_on c → m ≡ true → v ≡ (read c).value → r ≡ (read c).rest → s ≡ skipped xs r
      → taken xs read (stop - (at + 1)) (set list at v) (at + 1) s ≡ whole
  unfolding taken pick
  take_more {m} {v} {r} {s} h asked on e f g =
      let n : stop - at ≡ suc (stop - (at + 1)) = omega arith in
      let t : goes_on c ≡ true = sym asked ∙ on in
      let w : taken xs read (stop - at) list at c ≡ taken xs read (stop - (at + 1)) (set list at v) (at + 1) s =
      rw (n, t, add-one, e, g, f) in
      sym w ∙ inv

  -- the line has no number more
  pub take_stop : {m : Bool} → at < stop → m ≡ goes_on c → m ≡ false → record { list = list; left = record { at = at; rest = c } } ≡ whole
  unfolding taken pick
  take_stop h asked none =
      let n : stop - at ≡ suc (stop - (at + 1)) = omega arith in
      let t : goes_on c ≡ false = sym asked ∙ none in
      let w : taken xs read (stop - at) list at c ≡ record { list = list; left = record { at = at; rest = c } } = rw (n, t) in
      sym w ∙ inv

  -- no place is left
  pub take_ended : (n : ℕ) → stop ≤ at → n ≡ at → record { list = list; left = record { at = n; rest = c } } ≡ whole
  unfolding taken
  take_ended n h e =
      let m : stop - at ≡ 0 = omega arith in
      let w : taken xs read (stop - at) list at c ≡ record { list = list; left = record { at = at; rest = c } } = rw m in
      rw e (sym w ∙ inv)

-- what the loop makes is what the line says: the last place and the first cursor are the callees' answers
pub take_whole : {A : Type 0} (xs : List ℕ) (read : Cursor → Read A) (list : List A) (from end stop : ℕ) (c first : Cursor) {p : Put A}
    → stop ≡ min end (length list) → first ≡ skipped xs c → p ≡ taken xs read (stop - from) list from first → p ≡ taken_to xs read list from end c
unfolding taken_to
take_whole xs read list from end stop c first e f g = rw (← e, ← f) g
