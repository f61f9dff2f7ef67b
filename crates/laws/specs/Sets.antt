-- A list stored over another from a place on, and a second one after it.
-- Assumes nothing.
use Rattle.std.specs.Prelude.{◌≡◌, List, [], ◌∷◌, ◌++◌, ℕ, suc, ◌+◌, length, set}
use Rattle.std.proofs.Common.{sym, ap, ap₂, ◌∙◌, add-zero, add-suc, suc-add}
use Rattle.std.proofs.lemmas.List.Edits.{sets}

module _ {A : Type 0} where
  pub sets_append : (xs ys l : List A) (i : ℕ) → sets (sets l i xs) (i + length xs) ys ≡ sets l i (xs ++ ys)
  sets_append [] ys l i = ap (λ (k : ℕ). sets l k ys) (add-zero i)
  sets_append (x ∷ xs) ys l i =
      ap (λ (k : ℕ). sets (sets (set l i x) (suc i) xs) k ys) (add-suc i (length xs) ∙ sym (suc-add i (length xs)))
      ∙ sets_append xs ys (set l i x) (suc i)

  -- the same where the place of the second is known by another name
  pub sets_then : (xs ys : List A) (l : List A) (i j : ℕ) {r s : List A} → r ≡ sets l i xs → i + length xs ≡ j → s ≡ sets r j ys → s ≡ sets l i (xs ++ ys)
  sets_then xs ys l i j e p g =
      g ∙ ap₂ (λ (m : List A) (k : ℕ). sets m k ys) e (sym p) ∙ sets_append xs ys l i
