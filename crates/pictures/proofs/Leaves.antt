-- Leaves as code stores them: leaf by leaf, row by row. Assumes nothing.
use mathlib.Core.Path.{◌≡◌, refl, ap, ◌∙◌}
use mathlib.Core.List.{List, [], ◌∷◌}
use Prim.Native.Nat.{ℕ, ◌+◌, ◌-◌, ◌*◌, ◌≤◌}
use native.Mathlib.Omega.{arith}
use borrow.Author.Rules.{rules}
use borrow.Rule.Slice.PartMut.{put_mid}
use lib.ListN.{length}
use Rattle.laws.specs.Loops.{each}
use Rattle.pictures.specs.Storing.{stored}
use Rattle.pictures.specs.Defaults.{leaf, leaf_row}
use Rattle.pictures.proofs.Places.{row_place, first_place, last_place}
use Rattle.pictures.proofs.Parts.{part_stored}
use Rattle.pictures.proofs.Storing.{stored_long, pieces_none, pieces_more, pieces_end, pieces_length}

-- one leaf, over four places
pub leaf_put : (at row column : ℕ) (l : List ℕ) {ys : List ℕ} → at + 4 ≤ length l → ys ≡ row ∷ column ∷ 16 ∷ 16 ∷ [] → put_mid at (at + 4 - at) l ys ≡ stored l at (row ∷ column ∷ 16 ∷ 16 ∷ [])
leaf_put at row column l h e =
    ap (λ (x : List ℕ). put_mid at (at + 4 - at) l x) e ∙ part_stored at (at + 4 - at) l (row ∷ column ∷ 16 ∷ 16 ∷ []) (omega arith) (four h)
  where
    four : at + 4 ≤ length l → 4 ≡ at + 4 - at
    four h = omega arith

leaf_length : (row column : ℕ) → length (leaf row column) ≡ 4
unfolding leaf
leaf_length row column = refl

-- one more leaf of a row
pub leaf_more : (l : List ℕ) (at row c : ℕ) {q r : List ℕ} → q ≡ stored l at (each c (λ k. leaf row (16 * k))) → r ≡ stored q (at + 4 * c) (leaf row (16 * c))
    → r ≡ stored l at (each (c + 1) (λ k. leaf row (16 * k)))
leaf_more l at row c e g = pieces_more (λ k. leaf row (16 * k)) 4 l at c (λ k b. leaf_length row (16 * k)) e g

-- one more row of them
row_length : (row across : ℕ) → length (leaf_row row across) ≡ 4 * across
unfolding leaf_row
row_length row across = pieces_length (λ k. leaf row (16 * k)) 4 [] 0 across (λ k b. leaf_length row (16 * k))

pub row_more : (l : List ℕ) (p at across r : ℕ) {q q' : List ℕ} → at ≡ p + 4 * across * r → q ≡ stored l p (each r (λ k. leaf_row (16 * k) across))
    → q' ≡ stored q at (leaf_row (16 * r) across) → q' ≡ stored l p (each (r + 1) (λ k. leaf_row (16 * k) across))
row_more l p at across r {q} h e g =
    pieces_more (λ k. leaf_row (16 * k) across) (4 * across) l p r (λ k b. row_length (16 * k) across) e
    (g ∙ ap (λ (i : ℕ). stored q i (leaf_row (16 * r) across)) h)

pub ruleset tiling = (rules, stored_long, pieces_none, leaf_more, row_more, row_place, first_place, last_place, pieces_end)
