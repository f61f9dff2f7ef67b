-- How a list is held against the entries of a line, one at a time. Assumes nothing.
use mathlib.Core.Path.{◌≡◌, ap, ◌∙◌}
use mathlib.Core.Bool.{true, false, not}
use mathlib.Core.List.{List}
use Prim.Native.Nat.{ℕ, ◌+◌, ◌≤◌, ◌<◌}
use native.Mathlib.Omega.{arith}
use borrow.Author.Rules.{rules}
use borrow.Author.Tests.{eq-eqb, ne_eqb, not-true, not-false}
use lib.ListN.{length, get_or}
use Rattle.std.proofs.lemmas.List.{get_or_default}
use Rattle.laws.specs.Choose.{pick}
use Rattle.laws.specs.Loops.{turns, turns_none, turns_more, turns_end}
use Rattle.text.specs.declared.number.Cursor.{Cursor}
use Rattle.text.specs.declared.typed.Unsigned.{Unsigned}
use Rattle.text.specs.declared.lists.Held.{Held}
use Rattle.text.specs.Numbers.{number_at}
use Rattle.text.specs.Typed.{unsigned_of}
use Rattle.text.specs.Lists.{none_held, held_on, held_at}

-- one entry: e is the one that was read, v what it is held against
module _ (most : ℕ) (text : List ℕ) (v : ℕ) (h : Held) where
  pub held_off : not h.same ≡ true → h ≡ held_on most text v h
  unfolding held_on pick
  held_off d = let n : h.same ≡ false = not-true _ d in rw n

  module _ (e : Unsigned) (is : e ≡ unsigned_of most (number_at text h.rest)) (so : not h.same ≡ false) where
    pub held_same : e.value ≡ v → record { same = true; place = h.place + 1; rest = e.rest } ≡ held_on most text v h
    unfolding held_on pick
    held_same q = let y : h.same ≡ true = not-false _ so in rw (y, ← is, eq-eqb _ _ q)

    pub held_differs : (e.value ≡ v → ⊥) → record { same = false; place = h.place; rest = e.rest } ≡ held_on most text v h
    unfolding held_on pick
    held_differs q = let y : h.same ≡ true = not-false _ so in rw (y, ← is, ne_eqb _ _ q)

-- the first i entries were held against the list
pub record HeldTo {A : Type 0} (number : A → ℕ) (none : A) (most : ℕ) (text : List ℕ) (c : Cursor) (list : List A) (i : ℕ) (h : Held) : Type 0 where
  pub within : i ≤ length list
  pub place : h.place ≤ i
  pub held : h ≡ turns i (λ k x. held_on most text (number (get_or list k none)) x) (none_held c)

module _ {A : Type 0} (number : A → ℕ) (none : A) (most : ℕ) (text : List ℕ) (c : Cursor) (list : List A) where
  pub held_first : HeldTo number none most text c list 0 (none_held c)
  held_first = record { within = omega arith; place = omega arith; held = turns_none (λ k x. held_on most text (number (get_or list k none)) x) (none_held c) }

  module _ (i : ℕ) (h : Held) (so : HeldTo number none most text c list i h) where
    pub held_more : (m : ℕ) (x : A) (w : ℕ) (g : Held) → i < length list → m ≡ most → x ≡ get_or list i x → w ≡ number x → (g ≡ held_on m text w h) × (g.place ≤ h.place + 1) → HeldTo number none most text c list (i + 1) g
    held_more m x w g b s e d r = record {
      within = omega arith;
      place = omega (arith, so.place, r.1);
      held = turns_more (λ k y. held_on most text (number (get_or list k none)) y) (none_held c) i so.held (r.0 ∙ ap (λ (k : ℕ). held_on k text w h) s ∙ ap (λ (y : ℕ). held_on most text y h) (d ∙ ap number (e ∙ get_or_default list i x none b)));
    }

    pub held_end : length list ≤ i → h ≡ held_at number none most text c list
    unfolding held_at
    held_end b = turns_end (λ k x. held_on most text (number (get_or list k none)) x) (none_held c) i (length list) so.held so.within b

pub ruleset holding = (rules, held_first, held_more, held_end)
