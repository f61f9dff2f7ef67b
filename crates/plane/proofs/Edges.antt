-- The edge of a cell: that the table's thresholds are its own, and that a checked plane has room for it.
-- Assumes nothing.
use mathlib.Core.Path.{◌≡◌, refl, sym, ap, ◌∙◌}
use mathlib.Core.Bool.{Bool, true, false, not}
use mathlib.Core.List.{List, []}
use Prim.Native.Nat.{ℕ, ◌*◌, ◌/◌, ◌%◌, ◌≤◌, ◌<◌, min}
use native.Mathlib.Omega.{arith}
use borrow.Author.Rules.{rules}
use borrow.Author.Tests.{ne_eqb}
use lib.Dec.{eqb}
use lib.ListN.{get_or}
use Rattle.laws.specs.Choose.{pick, told_yes_not}
use Rattle.rules.specs.declared.edge.Edge.{Edge}
use Rattle.rules.specs.declared.settings.Plane.{Plane}
use Rattle.rules.specs.Numbers.{depth_ok}
use Rattle.rules.specs.Lengths.{pair_of}
use Rattle.rules.specs.Thresholds.{both_of}
use Rattle.rules.specs.Segment.{has_room}
use Rattle.rules.specs.Plane.{cell_of, cell_before, indices_of, index_at, shortened_at, edge_at, is_edge}
use Rattle.thresholds.proofs.Packed.{edge_q, edge_side}
use Rattle.thresholds.proofs.TwoBlocks.{both_most}
use Rattle.segment.specs.Fit.{InPlane}
use Rattle.cell_edges.specs.Cells.{Sizes, Cell, one_way, sized, marked, short_by}
use Rattle.plane_checks.specs.Fit.{room_of}
use Rattle.cell_edges.proofs.Places.{pair_below}
use Rattle.plane_checks.proofs.Reach.{inner_by}
use Rattle.records.specs.Fit.{InBytes}
use Rattle.plane.specs.Run.{Table, Levels, start_by, IsEdgeAt, Field}

block_most : (t : List ℕ) (k : ℕ) → Levels t → (get_or t (min k 1415) 0 / 65536 ≤ 2048) × (get_or t (min k 1415) 0 % 65536 ≤ 839)
block_most t k l = let h : min k 1415 ≤ 1415 = omega arith in (l.q_most (min k 1415) h, l.side_most (min k 1415) h)

-- the table says whether an edge is shortened
pub short_is : {s : Plane} {steps ts t : List ℕ} → Table s steps ts t → (m z q : List ℕ) (dir r c : ℕ) → c < s.cols → short_by s (start_by t c) dir r ≡ shortened_at s (one_way m z q ts) dir r c
unfolding short_by shortened_at
short_is {s} of m z q dir r c h = ap (λ (b : Bool). pick (eqb dir 0) b (eqb (r % s.sbh) 0)) (of.starts c h)

-- in another direction than 0 tile starts say nothing
pub short_row : (s : Plane) (start : Bool) (dir r : ℕ) {u : Bool} → (dir ≡ 0 → ⊥) → u ≡ short_by s false dir r → u ≡ short_by s start dir r
unfolding short_by pick
short_row s start dir r h e = e ∙ rw (ne_eqb dir 0 h)

-- what the code made is the edge
module _ (s : Plane)
    (t sizes qindex : List ℕ)
    (dir r c : ℕ)
    {i j a b p q side : ℕ}
    {u : Bool}
    (cell : i ≡ cell_of s r c)
    (prev : j ≡ cell_before s dir r c)
    (of-a : a ≡ get_or t (min (get_or qindex i 0) 1415) 0)
    (of-b : b ≡ get_or t (min (get_or qindex j 0) 1415) 0)
    (short : u ≡ short_by s (start_by t c) dir r)
    (inside : c < s.cols)
    (pair : p ≡ pair_of (index_at s (sized sizes) dir r c) s.chroma u)
    (of-q : q ≡ both_of (a / 65536) (b / 65536))
    (of-side : side ≡ both_of (a % 65536) (b % 65536))
    (deep : depth_ok s.depth ≡ true)
    (l : Levels t)
  where
    same_edge_holds : (steps ts : List ℕ) → Table s steps ts t → record { x = c * 4; y = r * 4; dir = dir; pair = p; q = q; side = side } ≡ edge_at s steps (one_way [] sizes qindex ts) dir r c
    unfolding edge_at index_at indices_of
    same_edge_holds steps ts of =
        let at_a = of-a ∙ of.entries.at (get_or qindex i 0) in
        let at_b = of-b ∙ of.entries.at (get_or qindex j 0) in
        let same-q = of-q ∙ edge_q s.depth steps s.deltaq s.deltaside deep of.accepted (get_or qindex i 0) (get_or qindex j 0) at_a at_b in
        let same-side = of-side ∙ edge_side s.depth steps s.deltaq s.deltaside deep of.accepted (get_or qindex i 0) (get_or qindex j 0) at_a at_b in
        rw (pair, short, short_is of [] sizes qindex dir r c inside, same-q, same-side, cell, prev)

    pub edge_is : IsEdgeAt s t sizes qindex dir r c (record { x = c * 4; y = r * 4; dir = dir; pair = p; q = q; side = side })
    unfolding index_at indices_of
    edge_is =
        let ha = block_most t (get_or qindex i 0) l in
        let hb = block_most t (get_or qindex j 0) l in
        record {
          is = same_edge_holds;
          x_is = refl;
          y_is = refl;
          dir_is = refl;
          pair_is = rw short at pair;
          q_most = rw (of-q, of-a, of-b) (both_most 2048 _ _ ha.0 hb.0);
          side_most = rw (of-side, of-a, of-b) (both_most 839 _ _ ha.1 hb.1);
        }

-- an edge of a checked plane has room
module _ {s : Plane} (marks sizes qindex : List ℕ) {t : List ℕ} {size : ℕ} (dir r c : ℕ) {e : Edge} (f : Field s marks sizes qindex t size dir) (k : Cell s r c) (is : IsEdgeAt s t sizes qindex dir r c e) where
  edge_room_holds : room_of s sizes (short_by s (start_by t c) dir r) dir r c ≡ true → has_room (4 * s.cols) (4 * s.rows) e ≡ true
  unfolding room_of has_room
  edge_room_holds h = rw (is.x_is, is.y_is, is.dir_is, is.pair_is) h

  pub in_plane : {u : Bool} → u ≡ is_edge s (marked marks) dir r c → not u ≡ false → InPlane s.stride (4 * s.cols) (4 * s.rows) e size
  in_plane {u} edge there = record {
    pair_is = pair_below _ _ _ is.pair_is;
    q_most = is.q_most;
    side_most = is.side_most;
    row = f.ready.sizes_ok.wide;
    plane = f.plane_long;
    room = edge_room_holds (f.room r c k (sym (told_yes_not _ u edge there)));
  }

-- its numbers fit the bytes of a record's entry
pub in_bytes : {s : Plane} {t sizes qindex : List ℕ} {dir r c : ℕ} {e : Edge} → Sizes s → Cell s r c → dir ≤ 1 → IsEdgeAt s t sizes qindex dir r c e → InBytes e
in_bytes z k two is = record {
  x_fits = omega (arith, is.x_is, k.in_cols, z.cols_most);
  y_fits = omega (arith, is.y_is, k.in_rows, z.rows_most);
  dir_fits = omega (arith, is.dir_is);
  pair_fits = omega (arith, pair_below _ _ _ is.pair_is);
  q_fits = omega (arith, is.q_most);
  side_fits = omega (arith, is.side_most);
}

pub ruleset edges = (rules, edge_is, in_plane)

pub ruleset asked = (rules, inner_by)
