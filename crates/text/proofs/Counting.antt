-- How words are counted one letter at a time. Assumes nothing.
use mathlib.Core.Path.{◌≡◌, refl, ap, ◌∙◌}
use mathlib.Core.Bool.{Bool, true, false, cond}
use mathlib.Core.List.{List}
use Prim.Native.Nat.{ℕ, suc, ◌+◌, ◌-◌, ◌≤◌}
use native.Mathlib.Nat.{le_antisymm}
use native.Mathlib.Omega.{arith}
use borrow.Author.Rules.{rules}
use Rattle.std.specs.Int.{from_bool}
use Rattle.laws.specs.Choose.{pick}
use Rattle.laws.specs.Sums.{sum}
use Rattle.text.specs.Words.{last_of, words_in}

-- the first k letters from a place on
abbrev pub sofar : List ℕ → ℕ → ℕ → ℕ → ℕ
sofar xs from end k = sum k (λ j. last_of xs end (from + j))

pub one_of : (b : Bool) → ◌≡◌ {A = ℕ} (cond b 1 0) (pick b 1 0)
unfolding pick
one_of true = refl
one_of false = refl

byte : (b : Bool) → from_bool b ≡ cond b 1 0
byte true = refl
byte false = refl

byte_le_one : (b : Bool) → from_bool b ≤ 1
byte_le_one true = omega arith
byte_le_one false = omega arith

-- so far at most one word a letter
pub count_room : (from at words v : ℕ) (b : Bool) → from ≤ at → v ≡ from_bool b → words ≤ at - from → words + v ≤ at + 1 - from
count_room from at words v b h d g = let e = byte_le_one b in omega arith

module _ (xs : List ℕ) (from end : ℕ) where
  pub count_none : 0 ≡ sofar xs from end (from - from)
  unfolding sum
  count_none = let e : from - from ≡ 0 = omega arith in rw e

  pub count_more : (at words v : ℕ) (b : Bool) → from ≤ at → cond b 1 0 ≡ last_of xs end at → v ≡ from_bool b → words ≡ sofar xs from end (at - from) → words + v ≡ sofar xs from end (at + 1 - from)
  unfolding sum
  count_more at words v b h e d inv =
      let s : at + 1 - from ≡ suc (at - from) = omega arith in
      let j : from + (at - from) ≡ at = omega arith in
      rw (s, j, ← e, d, ← inv) (ap (λ (k : ℕ). words + k) (byte b))

  pub count_end : (at words : ℕ) → at ≤ end → end ≤ at → words ≡ sofar xs from end (at - from) → words ≡ words_in xs from end
  unfolding words_in
  count_end at words h g inv = inv ∙ ap (λ (k : ℕ). sofar xs from end (k - from)) (le_antisymm h g)

pub ruleset counting = (rules, count_room, count_none, count_more, count_end)
