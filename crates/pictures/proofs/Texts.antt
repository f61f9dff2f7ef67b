-- A line as it is read byte by byte. Assumes nothing.
use mathlib.Core.Path.{◌≡◌, refl, sym, ap, ◌∙◌}
use mathlib.Core.List.{List}
use Prim.Native.Nat.{ℕ, ◌+◌, ◌≤◌, ◌<◌}
use native.Mathlib.Nat.{le_refl}
use native.Mathlib.Decide.{ℕ_discrete}
use native.Mathlib.Omega.{arith}
use borrow.Author.Rules.{rules}
use lib.ListN.{length, get_or, drop, set, length-set, drop_of_length-le}
use lib.Seq.{drop-drop, drop-set-lt, get_or-set_same, get_or-set_other}
use Rattle.pictures.specs.Texts.{Line}

-- n bytes of a line were read
pub record Reading (before after : List ℕ) (n : ℕ) : Type 0 where
  pub within : n ≤ length after
  pub long : length after ≡ length before
  pub rest : drop n after ≡ drop n before
  pub bare : (k : ℕ) → k < n → get_or after k 0 ≡ 10 → ⊥

pub reading_none : (l : List ℕ) → Reading l l 0
reading_none l = record { within = omega arith; long = refl; rest = refl; bare = λ k h e. omega arith }

pub reading_more : (before after : List ℕ) (n b : ℕ) → n < length after → (b ≡ 10 → ⊥) → Reading before after n → Reading before (set after n b) (n + 1)
reading_more before after n b h f r =
    record {
      within = omega (arith, length-set after n b);
      long = length-set after n b ∙ r.long;
      rest = drop-set-lt (n + 1) after n b (omega arith) ∙ sym (drop-drop 1 n after) ∙ ap (drop 1) r.rest ∙ drop-drop 1 n before;
      bare = λ k l e. elim (ℕ_discrete k n) [
        | yes q ↦ f (sym (get_or-set_same after n b 0 h) ∙ rw q at e)
        | no q ↦ r.bare k (omega arith) (sym (get_or-set_other after n k b 0 q) ∙ e)
      ];
    }

pub line_read : (before after : List ℕ) (n : ℕ) → Reading before after n → Line before after n
line_read before after n r = record { within = r.within; long = r.long; rest = r.rest; bare = λ h. r.bare }

-- one that the file ends
pub line_cut : (before after : List ℕ) (n : ℕ) → Reading before after n → Line before after (length after)
line_cut before after n r =
    record {
      within = le_refl (length after);
      long = r.long;
      rest = drop_of_length-le after (le_refl (length after)) ∙ sym (drop_of_length-le before {i = length after} (omega arith));
      bare = λ h. absurd (omega arith);
    }

pub ruleset reading = (rules, reading_none, reading_more, line_read, line_cut)
