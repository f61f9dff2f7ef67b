-- The cells that an edge on a cell's side may store in: two before it and two after it, across the edge.
-- Assumes nothing.
use mathlib.Core.Path.{◌≡◌, sym, ap, ◌∙◌}
use mathlib.Core.Bool.{Bool, true, false, not}
use mathlib.Core.List.{List}
use Prim.Native.Nat.{ℕ, ◌+◌, ◌*◌, ◌-◌, ◌/◌, ◌%◌, ◌≤◌, ◌<◌}
use native.Mathlib.Decide.{ℕ_discrete}
use native.Mathlib.Nat.{add-mul, mul-le-mul_right, mul-le-mul_left, div-add-mod', mul_assoc}
use native.Mathlib.Omega.{arith}
use borrow.Author.Tests.{eq-eqb, ne_eqb, not-true}
use lib.Dec.{eqb}
use lib.ListN.{length, get_or, get_or-eq_default}
use Rattle.laws.specs.Boxes.{In, in_of}
use Rattle.rules.specs.declared.edge.Edge.{Edge}
use Rattle.rules.specs.Lengths.{most_before, most_after}
use Rattle.rules.specs.Segment.{kept_in}
use Rattle.lengths.proofs.Lengths.{pair_facts}
use Rattle.segment.specs.Boxes.{across}
use Rattle.segment.specs.Fit.{InPlane}
use Rattle.kept.specs.Kept.{FourOpen, Open}
use Rattle.segment.proofs.Cells.{Along}
use Rattle.segment.proofs.Edges.{along_in, at_below}

-- beyond the list no cell is kept
pub unmarked : (keep : List ℕ) (cell : ℕ) → length keep ≤ cell → false ≡ eqb (get_or keep cell 0) 1
unmarked keep cell h = ap (λ (m : ℕ). eqb m 1) (sym (get_or-eq_default keep 0 h))

-- four answers, none of which is yes
pub four_of : (keep : List ℕ) (cell step : ℕ) {a b : ℕ} {t u v w : Bool} → t ≡ eqb (get_or keep cell 0) 1 → t ≡ false → u ≡ eqb (get_or keep (cell + step) 0) 1 → u ≡ false
    → a ≡ cell - step → v ≡ eqb (get_or keep a 0) 1 → v ≡ false → b ≡ cell - 2 * step → w ≡ eqb (get_or keep b 0) 1 → not w ≡ true → FourOpen keep cell step
four_of keep cell step {w = w} e1 f1 e2 f2 ha e3 f3 hb e4 f4 = record {
  here = sym e1 ∙ f1;
  next = sym e2 ∙ f2;
  back = ap (λ (i : ℕ). eqb (get_or keep i 0) 1) (sym ha) ∙ sym e3 ∙ f3;
  back_2 = ap (λ (i : ℕ). eqb (get_or keep i 0) 1) (sym hb) ∙ sym e4 ∙ not-true w f4;
}

-- a cell's number is at most the offset of its sample
pub cell_most : (k cols stride : ℕ) → cols ≤ stride → k / stride / 4 * cols + k % stride / 4 ≤ k
cell_most k cols stride h =
    let a : k / stride / 4 ≤ k / stride = omega arith in
    let b : k % stride / 4 ≤ k % stride = omega arith in
    omega (arith, mul-le-mul_right cols a, mul-le-mul_left (k / stride) h, div-add-mod' k stride)

-- and that of an edge's cell at most a quarter of the offset of its q0
pub edge_cell : (x y cols : ℕ) → 4 * (y / 4 * cols + x / 4) ≤ y * cols + x
edge_cell x y cols =
    let a : 4 * (y / 4) ≤ y = omega arith in
    omega (arith, mul-le-mul_right cols a, mul_assoc 4 (y / 4) cols)

-- room for an edge: a stride, and cells whose numbers fit
module _ {stride columns rows size : ℕ} {e : Edge} (h : InPlane stride columns rows e size) where
  wide_enough : (t : Bool) (b a : ℕ) → 3 ≤ b → 3 ≤ a → columns ≤ stride → Along t columns rows e.x e.y b a → (1 ≤ stride) × (4 ≤ rows)
  wide_enough true b a hb ha hc r = (omega arith, omega arith)
  wide_enough false b a hb ha hc r = (omega arith, omega arith)

  sized : (1 ≤ stride) × (4 ≤ rows)
  sized = let f = pair_facts e.pair h.pair_is in wide_enough (eqb e.dir 0) _ _ f.before.reach_3 f.after.reach_3 h.row (along_in h)

  pub stride_some : 1 ≤ stride
  stride_some = sized.0

  pub edge_fits : {cols : ℕ} → cols ≤ stride → size < 18446744073709551616 → (e.y * cols + e.x < 18446744073709551616) × (4 * cols < 18446744073709551616)
  edge_fits {cols} hc hs =
      let at = at_below h in
      let more = mul-le-mul_left e.y hc in
      let high = mul-le-mul_right stride sized.1 in
      (omega arith, omega (arith, h.plane))

-- a cell of row r, at most two columns before column v and at most one after it
along_row : (keep : List ℕ) (cols r v c : ℕ) → FourOpen keep (r * cols + v) 1 → v ≤ c + 2 → c ≤ v + 1 → eqb (get_or keep (r * cols + c) 0) 1 ≡ false
along_row keep cols r v c four h k =
    elim (ℕ_discrete c v) [
      | yes a ↦ rw a four.here
      | no a ↦ elim (ℕ_discrete c (v + 1)) [
        | yes b ↦ ap (λ (j : ℕ). eqb (get_or keep j 0) 1) (omega arith) ∙ four.next
        | no b ↦ elim (ℕ_discrete (c + 1) v) [
          | yes d ↦ ap (λ (j : ℕ). eqb (get_or keep j 0) 1) (omega arith) ∙ four.back
          | no d ↦ ap (λ (j : ℕ). eqb (get_or keep j 0) 1) (omega arith) ∙ four.back_2
        ]
      ]
    ]

-- and the same of rows
along_column : (keep : List ℕ) (cols u c r : ℕ) → FourOpen keep (u * cols + c) cols → u ≤ r + 2 → r ≤ u + 1 → eqb (get_or keep (r * cols + c) 0) 1 ≡ false
along_column keep cols u c r four h k =
    elim (ℕ_discrete r u) [
      | yes a ↦ rw a four.here
      | no a ↦ elim (ℕ_discrete r (u + 1)) [
        | yes b ↦ ap (λ (j : ℕ). eqb (get_or keep j 0) 1) (omega (arith, ap (λ (j : ℕ). j * cols) b, add-mul u 1 cols)) ∙ four.next
        | no b ↦ elim (ℕ_discrete (r + 1) u) [
          | yes d ↦ ap (λ (j : ℕ). eqb (get_or keep j 0) 1) (omega (arith, ap (λ (j : ℕ). j * cols) d, add-mul r 1 cols)) ∙ four.back
          | no d ↦ let e : r + 2 ≡ u = omega arith in ap (λ (j : ℕ). eqb (get_or keep j 0) 1) (omega (arith, ap (λ (j : ℕ). j * cols) e, add-mul r 2 cols)) ∙ four.back_2
        ]
      ]
    ]

module _ {cols stride columns rows size : ℕ} {keep : List ℕ} {e : Edge} (h : InPlane stride columns rows e size) (hx : e.x % 4 ≡ 0) (hy : e.y % 4 ≡ 0) where
  pub open_upright : e.dir ≡ 0 → FourOpen keep (e.y / 4 * cols + e.x / 4) 1 → Open cols stride keep e
  unfolding kept_in
  open_upright d four = record {
    none = λ k t.
        let f = pair_facts e.pair h.pair_is in
        let n = f.before.most_8 in
        let p = f.after.most_8 in
        let i : In (across true e.x e.y (most_before e.pair) (most_after e.pair)) (k % stride) (k / stride) = in_of stride _ k (rw (eq-eqb _ _ d) at t) in
        let u : k / stride / 4 ≡ e.y / 4 = omega (arith, i.top, i.bottom) in
        rw u (along_row keep cols (e.y / 4) (e.x / 4) (k % stride / 4) four (omega (arith, i.left)) (omega (arith, i.right)));
  }

  pub open_level : (e.dir ≡ 0 → ⊥) → FourOpen keep (e.y / 4 * cols + e.x / 4) cols → Open cols stride keep e
  unfolding kept_in
  open_level d four = record {
    none = λ k t.
        let f = pair_facts e.pair h.pair_is in
        let n = f.before.most_8 in
        let p = f.after.most_8 in
        let i : In (across false e.x e.y (most_before e.pair) (most_after e.pair)) (k % stride) (k / stride) = in_of stride _ k (rw (ne_eqb _ _ d) at t) in
        let u : k % stride / 4 ≡ e.x / 4 = omega (arith, i.left, i.right) in
        rw u (along_column keep cols (e.y / 4) (e.x / 4) (k / stride / 4) four (omega (arith, i.top)) (omega (arith, i.bottom)));
  }
