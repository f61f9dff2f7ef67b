-- Parts of the cells and superblock columns: where one starts and ends, and their edges as the loops run them.
-- Assumes nothing.
use mathlib.Core.Path.{◌≡◌, refl, sym}
use mathlib.Core.Bool.{Bool, true, false}
use mathlib.Core.List.{List, append-nil}
use Prim.Native.Nat.{ℕ, suc, ◌+◌, ◌*◌, ◌-◌, ◌≤◌, ◌<◌, min}
use native.Mathlib.Nat.{suc-mul, one-mul, le-div_iff_mul-le, div-le_self}
use native.Mathlib.Omega.{arith}
use borrow.Author.Rules.{rules}
use borrow.Author.Tests.{eq-eqb, ne_eqb}
use mir.Val.{Fits}
use mir.Syntax.{w64}
use lib.Dec.{eqb}
use Rattle.laws.specs.Choose.{pick}
use Rattle.laws.specs.Loops.{each}
use Rattle.rules.specs.declared.settings.Plane.{Plane}
use Rattle.rules.specs.Plane.{Grid, tiled, marks_of, indices_of, index_at, shortened_at, is_edge, edge_at, visit_of, start_of, count_of, sb_cols, sweep_of, column_of, turn_of, edges_of}
use Rattle.cell_edges.specs.Cells.{Sizes, Cell, one_way}
use Rattle.plane.specs.declared.part.Part.{Part}
use Rattle.plane.specs.Run.{State, Ran, PartOf, InPart, superblock_of, line_of}
use Rattle.plane.proofs.Runs.{ran_same, ran_then, ran_end}

-- ---- where they stand

module _ {s : Plane} (z : Sizes s) where
  sb_within : (sb : ℕ) → sb < sb_cols s → sb * s.sbw < s.cols
  unfolding sb_cols
  sb_within sb h =
      let some : 0 < s.sbw = omega arith in
      omega (arith, (le-div_iff_mul-le {k = s.sbw} {x = suc sb} {y = s.cols + s.sbw - 1} some).0 h, suc-mul sb s.sbw)

  pub sb_some : 0 < sb_cols s
  unfolding sb_cols
  sb_some =
      let some : 0 < s.sbw = omega arith in
      let h : 1 * s.sbw ≤ s.cols + s.sbw - 1 = omega (arith, one-mul s.sbw) in
      (le-div_iff_mul-le {k = s.sbw} {x = 1} {y = s.cols + s.sbw - 1} some).1 h

  pub sb_last : sb_cols s - 1 < sb_cols s
  sb_last = omega (arith, sb_some)

  pub sb_most : sb_cols s ≤ 2048
  unfolding sb_cols
  sb_most = omega (arith, div-le_self (s.cols + s.sbw - 1) s.sbw)

  module _ (sb : ℕ) (h : sb < sb_cols s) where
    pub sb_start : sb * s.sbw ≤ s.cols
    sb_start = omega (arith, sb_within sb h)

    pub sb_start_fits : Fits w64 (sb * s.sbw)
    sb_start_fits = record { fits = omega (arith, sb_within sb h) }

    pub sb_end : start_of s sb + count_of s sb ≤ s.cols
    unfolding count_of start_of
    sb_end = omega (arith, sb_within sb h)

  pub sb_part : (sb : ℕ) {p : Part} → p ≡ superblock_of s sb → sb < sb_cols s → PartOf s p
  unfolding superblock_of
  sb_part sb e h = rw e (record { rows_in = omega arith; cols_in = sb_end sb h })

-- what the code makes of one
pub sb_is : (s : Plane) (sb : ℕ) {n : ℕ} → n ≡ min s.sbw (s.cols - sb * s.sbw) → record { row = 0; rows = s.rows; col = sb * s.sbw; cols = n } ≡ superblock_of s sb
unfolding superblock_of count_of start_of
sb_is s sb e = rw e

-- ---- a part, line after line

pick_most : (t : Bool) {a b n m : ℕ} → n ≡ pick t a b → a ≤ m → b ≤ m → n ≤ m
unfolding pick
pick_most true e h k = omega arith
pick_most false e h k = omega arith

module _ {s : Plane} (dir : ℕ) {p : Part} {n : ℕ} (z : Sizes s) (i : PartOf s p) where
  pub lines_most : n ≡ pick (eqb dir 0) p.rows p.cols → n ≤ 1024
  lines_most e = pick_most (eqb dir 0) e (omega (arith, i.rows_in, z.rows_most)) (omega (arith, i.cols_in, z.cols_most))

  pub line_most : n ≡ pick (eqb dir 0) p.cols p.rows → n ≤ 1024
  line_most e = pick_most (eqb dir 0) e (omega (arith, i.cols_in, z.cols_most)) (omega (arith, i.rows_in, z.rows_most))

-- the cells of a line, in each direction
module _ {dir : ℕ} {p : Part} {k j : ℕ} (l : InPart dir p k j) where
  pub row_in : dir ≡ 0 → (k < p.rows) × (j < p.cols)
  unfolding pick
  row_in e = (rw (eq-eqb _ _ e) at l.line_in, rw (eq-eqb _ _ e) at l.cell_in)

  pub column_in : (dir ≡ 0 → ⊥) → (k < p.cols) × (j < p.rows)
  unfolding pick
  column_in e = (rw (ne_eqb _ _ e) at l.line_in, rw (ne_eqb _ _ e) at l.cell_in)

pub part_cell : {s : Plane} {p : Part} {i j : ℕ} → PartOf s p → i < p.rows → j < p.cols → Cell s (p.row + i) (p.col + j)
part_cell h a b = record { in_rows = omega (arith, h.rows_in); in_cols = omega (arith, h.cols_in) }

module _ {s : Plane} {p : Part} {i : ℕ} (z : Sizes s) (h : PartOf s p) where
  pub row_fits : i < p.rows → Fits w64 (p.row + i)
  row_fits l = record { fits = omega (arith, h.rows_in, z.rows_most) }

  pub col_fits : i < p.cols → Fits w64 (p.col + i)
  col_fits l = record { fits = omega (arith, h.cols_in, z.cols_most) }

-- a direction that is not 0 is 1
pub is_one : {dir : ℕ} → dir ≤ 1 → (dir ≡ 0 → ⊥) → dir ≡ 1
is_one {dir} h e = omega arith

-- the visit of a cell, as each direction calls it
module _ {s : Plane} {t keep : List ℕ} (g : List ℕ → Grid) {dir : ℕ} (p : Part) (k j : ℕ) {x y : State} where
  pub row_visit : dir ≡ 0 → Ran s t keep (λ steps ts. visit_of s steps (g ts) 0 (p.row + k) (p.col + j)) x y → Ran s t keep (λ steps ts. visit_of s steps (g ts) dir (p.row + pick (eqb dir 0) k j) (p.col + pick (eqb dir 0) j k)) x y
  unfolding pick
  row_visit e r = rw e r

  pub column_visit : dir ≡ 1 → Ran s t keep (λ steps ts. visit_of s steps (g ts) 1 (p.row + j) (p.col + k)) x y → Ran s t keep (λ steps ts. visit_of s steps (g ts) dir (p.row + pick (eqb dir 0) k j) (p.col + pick (eqb dir 0) j k)) x y
  unfolding pick
  column_visit e r = rw e r

module _ (s : Plane) (steps : List ℕ) (g : Grid) (dir : ℕ) (p : Part) where
  -- the lines are the part
  lines_are : each (pick (eqb dir 0) p.rows p.cols) (λ k. line_of s steps g dir p k) ≡ sweep_of s steps g dir p.row p.rows p.col p.cols
  unfolding line_of sweep_of pick
  lines_are = go (eqb dir 0)
    where
      go : (v : Bool) → each (pick v p.rows p.cols) (λ k. each (pick v p.cols p.rows) (λ j. visit_of s steps g dir (p.row + pick v k j) (p.col + pick v j k)))
          ≡ pick v (each p.rows (λ i. each p.cols (λ j. visit_of s steps g dir (p.row + i) (p.col + j)))) (each p.cols (λ j. each p.rows (λ i. visit_of s steps g dir (p.row + i) (p.col + j))))
      go true = refl
      go false = refl

module _ {s : Plane} {t keep : List ℕ} (g : List ℕ → Grid) (dir : ℕ) (p : Part) where
  pub line_is : (k : ℕ) {j n : ℕ} {x y : State} → Ran s t keep (λ steps ts. each j (λ i. visit_of s steps (g ts) dir (p.row + pick (eqb dir 0) k i) (p.col + pick (eqb dir 0) i k))) x y
      → n ≡ pick (eqb dir 0) p.cols p.rows → j ≤ n → n ≤ j → Ran s t keep (λ steps ts. line_of s steps (g ts) dir p k) x y
  unfolding line_of
  line_is k {j} one e a b =
      ran_end (λ steps ts i. visit_of s steps (g ts) dir (p.row + pick (eqb dir 0) k i) (p.col + pick (eqb dir 0) i k)) j (pick (eqb dir 0) p.cols p.rows) one (omega (arith, e)) (omega (arith, e))

  -- all lines
  pub sweep_is : {k n : ℕ} {x y : State} → Ran s t keep (λ steps ts. each k (λ i. line_of s steps (g ts) dir p i)) x y → n ≡ pick (eqb dir 0) p.rows p.cols → k ≤ n → n ≤ k → Ran s t keep (λ steps ts. sweep_of s steps (g ts) dir p.row p.rows p.col p.cols) x y
  sweep_is {k} one e a b = ran_same (λ steps ts. lines_are s steps (g ts) dir p) (ran_end (λ steps ts i. line_of s steps (g ts) dir p i) k (pick (eqb dir 0) p.rows p.cols) one (omega (arith, e)) (omega (arith, e)))

-- ---- a superblock column's edges

-- each direction reads its own lists of the whole grid
module _ {s : Plane} {t keep : List ℕ} (v h w y q : List ℕ) (sb : ℕ) {p : Part} {x z : State} (is : p ≡ superblock_of s sb) where
  pub vert_of : Ran s t keep (λ steps ts. sweep_of s steps (one_way v w q ts) 0 p.row p.rows p.col p.cols) x z → Ran s t keep (λ steps ts. column_of s steps (tiled v h w y q ts) 0 sb) x z
  unfolding column_of superblock_of sweep_of visit_of is_edge edge_at index_at shortened_at marks_of indices_of pick
  vert_of r = rw is at r

  pub horz_of : Ran s t keep (λ steps ts. sweep_of s steps (one_way h y q ts) 1 p.row p.rows p.col p.cols) x z → Ran s t keep (λ steps ts. column_of s steps (tiled v h w y q ts) 1 sb) x z
  unfolding column_of superblock_of sweep_of visit_of is_edge edge_at index_at shortened_at marks_of indices_of pick
  horz_of r = rw is at r

module _ {s : Plane} {t keep : List ℕ} (g : List ℕ → Grid) (sb : ℕ) {x y : State} (one : Ran s t keep (λ steps ts. column_of s steps (g ts) 0 sb) x y) where
  pub turn_first : sb ≡ 0 → Ran s t keep (λ steps ts. turn_of s steps (g ts) sb) x y
  unfolding turn_of pick
  turn_first e = ran_same (λ steps ts. rw (eq-eqb _ _ e) (sym (append-nil (column_of s steps (g ts) 0 sb)))) one

  -- the superblock column whose horizontal edges follow is the previous one
  pub turn_later : {prev : ℕ} {z : State} → (sb ≡ 0 → ⊥) → Ran s t keep (λ steps ts. column_of s steps (g ts) 1 prev) y z → prev ≡ sb - 1 → Ran s t keep (λ steps ts. turn_of s steps (g ts) sb) x z
  unfolding turn_of pick
  turn_later e two is = rw (ne_eqb _ _ e) (ran_then (λ steps ts. column_of s steps (g ts) 0 sb) (λ steps ts. column_of s steps (g ts) 1 (sb - 1)) one (rw is at two))

pub edges_are : {s : Plane} {t keep : List ℕ} (g : List ℕ → Grid) {k : ℕ} {x y z : State} → Ran s t keep (λ steps ts. each k (λ sb. turn_of s steps (g ts) sb)) x y → k ≤ sb_cols s → sb_cols s ≤ k → Ran s t keep (λ steps ts. column_of s steps (g ts) 1 (sb_cols s - 1)) y z → Ran s t keep (λ steps ts. edges_of s steps (g ts)) x z
unfolding edges_of
edges_are {s} g {k} one l m two =
    ran_then (λ steps ts. each (sb_cols s) (λ sb. turn_of s steps (g ts) sb)) (λ steps ts. column_of s steps (g ts) 1 (sb_cols s - 1))
    (ran_end (λ steps ts sb. turn_of s steps (g ts) sb) k (sb_cols s) one l m) two

pub ruleset blocks = (rules, sb_some, sb_last, sb_most, sb_start, sb_start_fits, sb_part, sb_is, lines_most, line_most)
