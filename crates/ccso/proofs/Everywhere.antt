-- The rules' target place by place: each sample is stored once, from what was lent there, and nothing past the target's size is stored.
-- Assumes nothing.
use mathlib.Core.Path.{◌≡◌, refl, ap, ◌∙◌}
use mathlib.Core.List.{List}
use Prim.Native.Nat.{ℕ, zero, suc, ◌+◌, ◌*◌, ◌≤◌, ◌<◌}
use native.Mathlib.Nat.{not-suc-le-zero}
use native.Mathlib.Decide.{ℕ_discrete}
use native.Mathlib.Omega.{arith}
use lib.ListN.{get_or, length, length-set}
use lib.IntN.{ℤ}
use lib.Seq.{get_or-set_same, get_or-set_other}
use Rattle.laws.specs.Loops.{turns, turns_keep}
use Rattle.rules.specs.declared.settings.Ccso.{Ccso}
use Rattle.rules.specs.Ccso.{target_width, target_height, sample_at, ccso_cell, ccso_row, ccso_of}
use Rattle.ccso_sample.proofs.Places.{cell_below}

-- a sample of one row is none of a later row
apart : {X : Type 0} (w y x z v : ℕ) → y < z → x < w → y * w + x ≡ z * w + v → X
apart w y x z v h l e = absurd (omega (arith, cell_below y z x w h l))

module _ (s : Ccso) (luma flags : List ℕ) (offsets : List ℤ) where
  -- n columns of a row
  module _ (y : ℕ) where
    abbrev columns : ℕ → List ℕ → List ℕ
    columns n t = turns n (λ x. ccso_cell s luma flags offsets y x) t

    columns_length : (n : ℕ) (t : List ℕ) → length (columns n t) ≡ length t
    unfolding ccso_cell
    columns_length n t =
        turns_keep (λ x. ccso_cell s luma flags offsets y x) t (λ q. length q ≡ length t) n refl (λ x q l e. length-set q _ _ ∙ e)

    columns_other : (n i : ℕ) (t : List ℕ) → ((x : ℕ) → x < n → i ≡ y * target_width s + x → ⊥) → get_or (columns n t) i 0 ≡ get_or t i 0
    unfolding ccso_cell
    columns_other n i t far =
        turns_keep (λ x. ccso_cell s luma flags offsets y x) t (λ q. get_or q i 0 ≡ get_or t i 0) n refl (λ x q l e. get_or-set_other q _ i _ 0 (far x l) ∙ e)

    columns_at : (n x : ℕ) (t : List ℕ) → x < n → y * target_width s + x < length t
        → get_or (columns n t) (y * target_width s + x) 0 ≡ sample_at s luma flags offsets x y (get_or t (y * target_width s + x) 0)
    unfolding turns ccso_cell
    columns_at zero x t h b = absurd (not-suc-le-zero h)
    columns_at (suc n) x t h b =
        elim (ℕ_discrete x n) [
          | yes e ↦ rw (← e) (last x b)
          | no e ↦ get_or-set_other (columns n t) _ (y * target_width s + x) _ 0 (λ d. e (omega arith)) ∙ columns_at n x t (omega arith) b
        ]
      where
        last : (x : ℕ) → y * target_width s + x < length t → get_or (ccso_cell s luma flags offsets y x (columns x t)) (y * target_width s + x) 0 ≡ sample_at s luma flags offsets x y (get_or t (y * target_width s + x) 0)
        last x b =
            get_or-set_same (columns x t) (y * target_width s + x) _ 0 (omega (arith, columns_length x t))
            ∙ ap (sample_at s luma flags offsets x y) (columns_other x (y * target_width s + x) t (λ v l d. absurd (omega arith)))

  -- n rows
  abbrev rows : ℕ → List ℕ → List ℕ
  rows n t = turns n (λ y. ccso_row s luma flags offsets y) t

  rows_length : (n : ℕ) (t : List ℕ) → length (rows n t) ≡ length t
  unfolding ccso_row
  rows_length n t =
      turns_keep (λ y. ccso_row s luma flags offsets y) t (λ q. length q ≡ length t) n refl (λ y q l e. columns_length y (target_width s) q ∙ e)

  rows_other : (n i : ℕ) (t : List ℕ) → ((y x : ℕ) → y < n → x < target_width s → i ≡ y * target_width s + x → ⊥) → get_or (rows n t) i 0 ≡ get_or t i 0
  unfolding ccso_row
  rows_other n i t far =
      turns_keep (λ y. ccso_row s luma flags offsets y) t (λ q. get_or q i 0 ≡ get_or t i 0) n refl
      (λ y q l e. columns_other y (target_width s) i q (λ x h. far y x l h) ∙ e)

  rows_at : (n x y : ℕ) (t : List ℕ) → x < target_width s → y < n → y * target_width s + x < length t
      → get_or (rows n t) (y * target_width s + x) 0 ≡ sample_at s luma flags offsets x y (get_or t (y * target_width s + x) 0)
  unfolding turns ccso_row
  rows_at zero x y t h l b = absurd (not-suc-le-zero l)
  rows_at (suc n) x y t h l b =
      elim (ℕ_discrete y n) [
        | yes e ↦ rw (← e) (last y b)
        | no e ↦
            columns_other n (target_width s) (y * target_width s + x) (rows n t) (λ v d g. apart (target_width s) y x n v (omega arith) h g)
            ∙ rows_at n x y t h (omega arith) b
      ]
    where
      last : (y : ℕ) → y * target_width s + x < length t → get_or (ccso_row s luma flags offsets y (rows y t)) (y * target_width s + x) 0 ≡ sample_at s luma flags offsets x y (get_or t (y * target_width s + x) 0)
      last y b =
          columns_at y (target_width s) x (rows y t) h (omega (arith, rows_length y t))
          ∙ ap (sample_at s luma flags offsets x y)
          (rows_other y (y * target_width s + x) t (λ z v l d g. apart (target_width s) z v y x l d (omega arith)))

  -- the whole target
  pub target_length : (t : List ℕ) → length (ccso_of s luma flags offsets t) ≡ length t
  unfolding ccso_of
  target_length t = rows_length (target_height s) t

  pub target_at : (x y : ℕ) (t : List ℕ) → x < target_width s → y < target_height s → y * target_width s + x < length t
      → get_or (ccso_of s luma flags offsets t) (y * target_width s + x) 0 ≡ sample_at s luma flags offsets x y (get_or t (y * target_width s + x) 0)
  unfolding ccso_of
  target_at x y t h l b = rows_at (target_height s) x y t h l b

  pub target_past : (i : ℕ) (t : List ℕ) → target_height s * target_width s ≤ i → get_or (ccso_of s luma flags offsets t) i 0 ≡ get_or t i 0
  unfolding ccso_of
  target_past i t h =
      rows_other (target_height s) i t (λ y x l d g. absurd (omega (arith, cell_below y (target_height s) x (target_width s) l d)))
