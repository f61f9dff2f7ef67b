-- A header line's parts, by the answers of those that read them. Assumes nothing.
use mathlib.Core.Path.{◌≡◌, sym, ap, ◌∙◌}
use mathlib.Core.Bool.{Bool, true, false}
use mathlib.Core.List.{List}
use Prim.Native.Nat.{ℕ, ◌+◌, ◌-◌, ◌≤◌, ◌<◌}
use native.Mathlib.Omega.{arith}
use borrow.Author.Rules.{rules}
use borrow.Author.Tests.{lt-ltb, le-ltb, le-leb, lt-leb, eq-eqb, ne_eqb}
use lib.ListN.{get_or}
use lib.Dec.{eqb}
use Rattle.laws.specs.Choose.{pick, both}
use Rattle.text.specs.Numbers.{number_at}
use Rattle.text.specs.Typed.{unsigned_of}
use Rattle.text.specs.declared.typed.Unsigned.{Unsigned}
use Rattle.text.specs.declared.spell.Word.{Word}
use Rattle.text.specs.Words.{word_at}
use Rattle.text.specs.Places.{seek}
use Rattle.text.proofs.Seeking.{seek_on, seek_here, seek_end}
use Rattle.y4m.specs.declared.format.Layout.{Layout}
use Rattle.y4m.specs.Formats.{layout_of, format_at}
use Rattle.y4m.specs.Headers.{tag_at, size_at, opens_at, frames_at, header_of}

module _ (xs : List ℕ) (at end : ℕ) where
  pub format_named : (w : Word) (r : Layout) → at + 1 < end → w ≡ word_at xs (at + 2) end → r ≡ layout_of w.value → r ≡ format_at xs at end
  unfolding format_at pick
  format_named w r h e f = rw (lt-ltb _ _ h, ← e) f

  pub format_none : (r : Layout) → end ≤ at + 1 → r ≡ layout_of 3420720 → r ≡ format_at xs at end
  unfolding format_at pick
  format_none r h f = rw (le-ltb _ _ h) f

  pub size_past : end ≤ at → 0 ≡ size_at xs at end
  unfolding size_at pick
  size_past h = rw (le-leb _ _ h)

  pub size_none : at < end → get_or xs at 0 < 48 → 0 ≡ size_at xs at end
  unfolding size_at pick
  size_none h g = rw (lt-leb _ _ h, lt-ltb _ _ g)

  pub size_read : (n : Unsigned) → at < end → 48 ≤ get_or xs at 0 → n ≡ unsigned_of 4096 (number_at xs (record { at = at; end = end; good = true })) → n.value ≡ size_at xs at end
  unfolding size_at pick
  size_read n h g e = rw (lt-leb _ _ h, le-ltb _ _ g, ← e)

module _ (xs : List ℕ) (end : ℕ) where
  pub opens_not : (get_or xs 0 0 ≡ 89 → ⊥) → false ≡ opens_at xs end
  unfolding opens_at both
  opens_not h = rw (ne_eqb _ _ h)

  pub opens_word : (w : Word) → get_or xs 0 0 ≡ 89 → w ≡ word_at xs 1 end → eqb w.value 6149159847884834610 ≡ opens_at xs end
  unfolding opens_at both
  opens_word w h e = rw (eq-eqb _ _ h, ← e)

  pub frames_word : (w : Word) → w ≡ word_at xs 0 end → eqb w.value 302027722053 ≡ frames_at xs end
  unfolding frames_at
  frames_word w e = rw (← e)

  pub header_of_holds : (w h c : ℕ) (o : Bool) (width height : ℕ) (l : Layout)
      → w ≡ seek (tag_at xs 87) 0 (end - 1) → h ≡ seek (tag_at xs 72) 0 (end - 1) → c ≡ seek (tag_at xs 67) 0 (end - 1)
      → o ≡ opens_at xs end → width ≡ size_at xs (w + 2) end → height ≡ size_at xs (h + 2) end → l ≡ format_at xs c end
      → record { opens = o; width = width; height = height; layout = l } ≡ header_of xs end
  unfolding header_of
  header_of_holds w h c o width height l p q r s t u v = rw (← p, ← q, ← r, ← s, ← t, ← u, ← v)

-- the walk to a letter
pub is_tag : (xs : List ℕ) (letter k : ℕ) (r : Bool) → r ≡ tag_at xs letter k → r ≡ true → true ≡ tag_at xs letter k
is_tag xs letter k r e f = sym f ∙ e

pub no_tag : (xs : List ℕ) (letter k : ℕ) (r : Bool) → r ≡ tag_at xs letter k → r ≡ false → false ≡ tag_at xs letter k
no_tag xs letter k r e f = sym f ∙ e

pub ruleset heading = (rules, format_named, format_none, size_past, size_none, size_read, opens_not, opens_word, frames_word, header_of_holds)

-- before the first turn
pub tag_start : (q : ℕ → Bool) (n : ℕ) → seek q 0 (n - 0) ≡ seek q 0 n
tag_start q n = ap (λ (k : ℕ). seek q 0 k) (omega arith)

pub ruleset tagging = (rules, tag_start, seek_on, seek_here, seek_end, is_tag, no_tag)

-- past the last turn
pub tag_over : (q : ℕ → Bool) (at n : ℕ) → seek q at (n - at) ≡ seek q 0 n → at ≡ n → n ≡ seek q 0 n
unfolding seek
tag_over q at n inv e =
    let m : n - at ≡ 0 = omega arith in
    sym e ∙ (let s : at ≡ seek q at (n - at) = rw m in s) ∙ inv
