-- How the first leaf outside and the next value of a letter are found. Assumes nothing.
use mathlib.Core.Path.{◌≡◌, sym, ap, ◌∙◌}
use mathlib.Core.List.{List}
use mathlib.Core.Bool.{Bool, true, false}
use Prim.Native.Nat.{ℕ, ◌+◌, ◌-◌, ◌*◌, ◌/◌, ◌≤◌, ◌<◌}
use native.Mathlib.Omega.{arith}
use borrow.Author.Rules.{rules}
use borrow.Author.Tests.{lt-ltb, le-ltb}
use lib.Dec.{ltb}
use lib.ListN.{length, get_or}
use Rattle.laws.specs.Choose.{pick}
use Rattle.text.specs.Places.{seek}
use Rattle.text.proofs.Seeking.{seek_on, seek_here, seek_end}
use Rattle.y4m.specs.Headers.{tag_at}
use Rattle.pictures.specs.Outside.{beyond, beyond_at, outside_of, again_of, twice_of}

module _ (rows columns : ℕ) (leaves : List ℕ) (k : ℕ) (r : Bool) (e : r ≡ beyond rows columns (get_or leaves (4 * k) 0) (get_or leaves (4 * k + 1) 0)) where
  pub is_outside : r ≡ true → true ≡ beyond_at rows columns leaves k
  unfolding beyond_at
  is_outside f = sym f ∙ e

  pub is_inside : r ≡ false → false ≡ beyond_at rows columns leaves k
  unfolding beyond_at
  is_inside f = sym f ∙ e

pub outside_is : (rows columns n : ℕ) (leaves : List ℕ) {k : ℕ} → n ≡ length leaves / 4 → k ≡ seek (beyond_at rows columns leaves) 0 (n - 0) → k ≡ outside_of rows columns leaves
unfolding outside_of
outside_is rows columns n leaves e f = let m : n - 0 ≡ length leaves / 4 = omega arith in f ∙ ap (seek (beyond_at rows columns leaves) 0) m

-- a letter's value
module _ (xs : List ℕ) (letter k : ℕ) (r : Bool) (e : r ≡ tag_at xs letter k) where
  pub is_tagged : r ≡ true → true ≡ tag_at xs letter k
  is_tagged f = sym f ∙ e

  pub no_tagged : r ≡ false → false ≡ tag_at xs letter k
  no_tagged f = sym f ∙ e

module _ (xs : List ℕ) (letter last first : ℕ) (e : first ≡ seek (tag_at xs letter) 0 (last - 0)) where
  first_is : first ≡ seek (tag_at xs letter) 0 last
  first_is = e ∙ ap (seek (tag_at xs letter) 0) (omega arith)

  pub twice_yes : (second : ℕ) → first < last → second ≡ seek (tag_at xs letter) (first + 1) (last - (first + 1)) → ltb second last ≡ twice_of xs letter last
  unfolding twice_of again_of pick
  twice_yes second h f = rw (← first_is, lt-ltb _ _ h, ← f)

  pub twice_no : last ≤ first → false ≡ twice_of xs letter last
  unfolding twice_of again_of pick
  twice_no h = rw (← first_is, le-ltb _ _ h)

pub ruleset finding = (rules, seek_on, seek_here, seek_end, is_outside, is_inside, outside_is, is_tagged, no_tagged, twice_yes, twice_no)
