-- Where a cell and the cell before it stand in a grid's lists, and that the edge of a cell reads only its own direction.
-- Assumes nothing.
use mathlib.Core.Path.{◌≡◌, refl, ap}
use mathlib.Core.Bool.{Bool, true, false}
use mathlib.Core.List.{List, []}
use Prim.Native.Nat.{ℕ, ◌+◌, ◌*◌, ◌-◌, ◌≤◌, ◌<◌, min}
use native.Mathlib.Nat.{mul-le-mul, mul-le-mul_right, suc-mul, one-mul}
use native.Mathlib.Omega.{arith}
use borrow.Author.Tests.{eq-eqb, ne_eqb}
use mir.Val.{Fits}
use mir.Syntax.{w64}
use lib.Dec.{eqb}
use lib.ListN.{get_or}
use borrow.Author.Rules.{rules}
use Rattle.laws.specs.Choose.{pick, pick_yes, pick_no, is_eq, not_eq, is_lt, not_lt, both_bad, both_ok}
use Rattle.rules.specs.declared.settings.Plane.{Plane}
use Rattle.rules.specs.Lengths.{pair_of}
use Rattle.rules.specs.Plane.{cell_of, cell_before, marks_of, indices_of, is_edge}
use Rattle.cell_edges.specs.Cells.{Sizes, Cell, Inner, Indices, one_way, marked}

module _ {s : Plane} {r c : ℕ} (z : Sizes s) (k : Cell s r c) where
  pub cell_below : r * s.cols + c < s.rows * s.cols
  cell_below = omega (arith, mul-le-mul_right s.cols k.in_rows, suc-mul r s.cols)

  area : s.rows * s.cols ≤ 1024 * 1024
  area = mul-le-mul z.rows_most z.cols_most

  pub row_fits : Fits w64 (r * s.cols)
  row_fits = record { fits = omega (arith, cell_below, area) }

  pub cell_fits : Fits w64 (r * s.cols + c)
  cell_fits = record { fits = omega (arith, cell_below, area) }

pub cell_is : (s : Plane) (r c : ℕ) → r * s.cols + c ≡ cell_of s r c
unfolding cell_of
cell_is s r c = refl

-- the cell before, left or up
module _ {s : Plane} {dir r c : ℕ} (i : ℕ) (k : Inner s dir r c) (is : i ≡ cell_of s r c) (below : i < s.rows * s.cols) where
  left : dir ≡ 0 → 0 < c
  unfolding pick
  left e = rw (eq-eqb _ _ e) at k.later

  up : (dir ≡ 0 → ⊥) → 0 < r
  unfolding pick
  up e = rw (ne_eqb _ _ e) at k.later

  pub left_in : dir ≡ 0 → 1 ≤ i
  unfolding cell_of
  left_in e = omega (arith, left e)

  pub up_in : (dir ≡ 0 → ⊥) → s.cols ≤ i
  unfolding cell_of
  up_in e = omega (arith, mul-le-mul_right s.cols (up e), one-mul s.cols)

  pub left_is : dir ≡ 0 → i - 1 ≡ cell_before s dir r c
  unfolding cell_before
  left_is e = pick_yes _ _ _ _ (is_eq _ _ e) (ap (λ (n : ℕ). n - 1) is)

  pub up_is : (dir ≡ 0 → ⊥) → i - s.cols ≡ cell_before s dir r c
  unfolding cell_before
  up_is e = pick_no _ _ _ _ (not_eq _ _ e) (ap (λ (n : ℕ). n - s.cols) is)

-- ---- grids with the same lists in both directions

same : {A : Type 0} (t : Bool) (a : A) → pick t a a ≡ a
unfolding pick
same true a = refl
same false a = refl

pub marks_one : (dir : ℕ) (m z q ts : List ℕ) → marks_of (one_way m z q ts) dir ≡ m
unfolding marks_of
marks_one dir m z q ts = same (eqb dir 0) m

pub indices_one : (dir : ℕ) (m z q ts : List ℕ) → indices_of (one_way m z q ts) dir ≡ z
unfolding indices_of
indices_one dir m z q ts = same (eqb dir 0) z

-- whether a cell has an edge, k being the number that is 0 in the first column or row
module _ (s : Plane) (m : List ℕ) (dir r c : ℕ) {k : ℕ} (at : k ≡ pick (eqb dir 0) c r) where
  pub edge_none : k ≡ 0 → false ≡ is_edge s (marked m) dir r c
  unfolding is_edge
  edge_none e = both_bad _ _ (not_lt 0 (pick (eqb dir 0) c r) (omega arith))

  pub edge_mark : {i : ℕ} → (k ≡ 0 → ⊥) → i ≡ cell_of s r c → eqb (get_or m i 0) 1 ≡ is_edge s (marked m) dir r c
  unfolding is_edge
  edge_mark {i} e f = let some : 0 < k = omega arith in both_ok _ _ _ (is_lt 0 (pick (eqb dir 0) c r) (omega arith)) (rw (marks_one dir m [] [] [], ← f))

-- the numbers of an edge
pub place_most : {s : Plane} {p : ℕ} (dir : ℕ) {r c : ℕ} → Sizes s → Inner s dir r c → p ≡ pick (eqb dir 0) (c * 4) (r * 4) → p ≤ 4096
unfolding pick
place_most {s} {p} dir {r} {c} z k e = go (eqb dir 0) e
  where
    go : (t : Bool) → p ≡ pick t (c * 4) (r * 4) → p ≤ 4096
    go true q = omega arith
    go false q = omega arith

pub index_small : {s : Plane} (l : List ℕ) (i a b m : ℕ) → Indices s l → i < s.rows * s.cols → a ≡ get_or l i 0 → m ≡ min a b → m ≤ 6
index_small l i a b m k h e f = omega (arith, k.small.each_one i h)

pick_below : (t : Bool) {a b n : ℕ} → a < n → b < n → pick t a b < n
unfolding pick
pick_below true h g = h
pick_below false h g = g

pub pair_below : (m : ℕ) (chroma shortened : Bool) {p : ℕ} → p ≡ pair_of m chroma shortened → p < 8
unfolding pair_of
pair_below m chroma shortened e =
    rw e
    (pick_below _ (omega arith)
    (pick_below _ (pick_below _ (pick_below _ (omega arith) (omega arith)) (omega arith))
    (pick_below _ (pick_below _ (pick_below _ (omega arith) (omega arith)) (omega arith))
    (pick_below _ (pick_below _ (omega arith) (omega arith)) (pick_below _ (omega arith) (omega arith))))))

pub ruleset places = (rules, row_fits, cell_fits, cell_below, cell_is, left_in, up_in, left_is, up_is, edge_none, edge_mark, place_most, index_small, pair_below)
