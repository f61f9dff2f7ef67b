-- A list that kept its length and had entries read to its front. Assumes nothing.
use mathlib.Core.Path.{◌≡◌, refl, sym, ap, ◌∙◌}
use mathlib.Core.Bool.{Bool}
use mathlib.Core.List.{List}
use Prim.Native.Nat.{ℕ, ◌+◌, ◌≤◌, ◌<◌}
use native.Mathlib.Omega.{arith}
use native.Mathlib.Nat.{le_antisymm}
use native.Mathlib.Numerals.{add-one}
use borrow.Author.Rules.{rules}
use lib.ListN.{length, set, length-set}
use Rattle.laws.specs.Lists.{front}
use Rattle.laws.specs.Loops.{filled, filled_more}
use Rattle.text.specs.declared.number.Cursor.{Cursor}
use Rattle.text.specs.declared.lists.Listed.{Listed}
use Rattle.text.specs.declared.typed.Unsigned.{Unsigned}
use Rattle.text.specs.Numbers.{number_at, whole_line}
use Rattle.text.specs.Typed.{unsigned_of}
use Rattle.text.specs.Lists.{Fills, Reads, ReadsTwo, two_at, after_entries, entry_at, length_at, listed_at, list_at, steps_at}

pub fronted : {A : Type 0} (n : ℕ) (before after : List A) → length after ≡ length before → n ≤ length before → Fills n before after
fronted n before after e h = record { kept = e; within = omega arith; front = front n after (omega arith) }

pub ruleset fillings = (rules, fronted)

-- ---- one entry after the other

-- the first i of n entries stand at the front of the list, and rest follows them; first is where they begin
pub record SoFar {A : Type 0} (of : ℕ → A) (most : ℕ) (text : List ℕ) (before : List A) (first : Cursor) (n i : ℕ) (list : List A) (rest : Cursor) : Type 0 where
  pub within : i ≤ n
  pub room : n ≤ length before
  pub kept : length list ≡ length before
  pub filling : list ≡ filled before (λ k. of (entry_at most text first k)) i
  pub follows : rest ≡ after_entries most text first i

module _ {A : Type 0} (of : ℕ → A) (most : ℕ) (text : List ℕ) (before : List A) (first : Cursor) (n : ℕ) where
  pub so_none : n ≤ length before → SoFar of most text before first n 0 before first
  unfolding after_entries filled
  so_none h = record { within = omega arith; room = h; kept = refl; filling = refl; follows = refl }

  module _ (i : ℕ) (list : List A) (rest : Cursor) (so : SoFar of most text before first n i list rest) where
    pub so_more : (m : ℕ) (e : Unsigned) (x : A) → i < n → m ≡ most → e ≡ unsigned_of m (number_at text rest) → x ≡ of e.value → SoFar of most text before first n (i + 1) (set list i x) e.rest
    unfolding after_entries entry_at
    so_more m e x h s t p = let d : e ≡ unsigned_of most (number_at text rest) = rw s at t in record {
      within = omega arith;
      room = so.room;
      kept = length-set list i x ∙ so.kept;
      filling = filled_more before (λ k. of (entry_at most text first k)) i so.filling (ap (λ (v : A). set list i v) (p ∙ ap (λ (u : Unsigned). of u.value) (d ∙ ap (λ (k : Cursor). unsigned_of most (number_at text k)) so.follows)));
      follows = ap (λ (u : Unsigned). u.rest) (d ∙ ap (λ (k : Cursor). unsigned_of most (number_at text k)) so.follows) ∙ ap (after_entries most text first) (sym (add-one i));
    }

    -- all of them
    pub so_read : (c : Cursor) (l : Unsigned) → l ≡ unsigned_of (length before) (number_at text c) → n ≡ l.value → first ≡ l.rest → n ≤ i → Reads of most text c before list (record { length = n; rest = rest })
    unfolding length_at listed_at list_at
    so_read c l e a b h =
        let m : i ≡ n = le_antisymm so.within h in
        let x : n ≡ (length_at text c (length before)).value = a ∙ ap (λ (u : Unsigned). u.value) e in
        let y : first ≡ (length_at text c (length before)).rest = b ∙ ap (λ (u : Unsigned). u.rest) e in
        let z : i ≡ (length_at text c (length before)).value = m ∙ x in
        let q : rest ≡ after_entries most text (length_at text c (length before)).rest (length_at text c (length before)).value = rw (y, z) at so.follows in
        record {
          fills = fronted n before list so.kept so.room;
          listed = rw (x, q);
          list = rw (y, z) at so.filling;
        }

pub ruleset entering = (rules, so_none, so_more, so_read)

-- two lists, the second where the first ends
pub two_read : (text : List ℕ) (c : Cursor) (a b a' b' : List ℕ) {x y : Listed} → Reads (λ n. n) 255 text c a a' x → Reads (λ n. n) 255 text x.rest b b' y → ReadsTwo text c a b a' b' (record { a = x.length; b = y.length; rest = y.rest })
unfolding two_at
two_read text c a b a' b' one two = record {
  a_fits = omega (arith, one.fills.within, one.fills.kept);
  b_fits = omega (arith, two.fills.within, two.fills.kept);
  two = rw (two.listed, one.listed);
  a_list = one.list;
  b_list = rw (← one.listed) two.list;
}

pub ruleset twos = (rules, two_read)

-- a line that sets the step table, by its list and its end
pub steps_set : (text : List ℕ) (c : Cursor) (room : ℕ) {l : Listed} {whole : Bool} → l ≡ listed_at 4294967295 text c room → whole ≡ whole_line l.rest → record { length = l.length; whole = whole } ≡ steps_at text c room
unfolding steps_at
steps_set text c room e f = rw (f, e)

pub ruleset steppings = (rules, steps_set)
