-- Every edge that an accepted plane's run visits has room and accepted numbers, so that whatever holds of one edge holds at each of the run's.
-- Assumes nothing.
use mathlib.Core.Path.{◌≡◌, refl, sym, ◌∙◌}
use mathlib.Core.Bool.{Bool, true, false}
use mathlib.Core.List.{List, [], ◌∷◌}
use Prim.Native.Nat.{ℕ, ◌+◌, ◌*◌, ◌-◌, ◌≤◌, ◌<◌}
use native.Mathlib.Omega.{arith}
use lib.Dec.{eqb}
use lib.ListN.{length}
use Rattle.laws.specs.Choose.{pick, pick_yes}
use Rattle.laws.specs.Loops.{each}
use Rattle.laws.specs.Lists.{Each, each_append, each_loop}
use Rattle.rules.specs.declared.edge.Edge.{Edge}
use Rattle.rules.specs.declared.settings.Plane.{Plane}
use Rattle.std.specs.declared.result.Result.TheVariants.{Ok}
use Rattle.std.specs.declared.option.Option.TheVariants.{None}
use Rattle.rules.specs.Thresholds.{q_threshold, side_threshold}
use Rattle.rules.specs.Segment.{has_room}
use Rattle.rules.specs.Plane.{Grid, is_edge, edge_at, visit_of, start_of, count_of, sb_cols, sweep_of, column_of, turn_of, edges_of, edge_room, lacks_room, lacks_row, lacks_dir, no_room, plane_check}
use Rattle.thresholds.proofs.Quants.{q_most}
use Rattle.thresholds.proofs.Sides.{side_most}
use Rattle.thresholds.proofs.TwoBlocks.{both_most}
use Rattle.checks.proofs.First.{nothing_all, unless_nothing, sooner_nothing}
use Rattle.segment.specs.Fit.{InPlane}
use Rattle.cell_edges.specs.Cells.{Cell}
use Rattle.cell_edges.proofs.Places.{pair_below}
use Rattle.plane.specs.Checked.{Checked}
use Rattle.plane.proofs.Accepting.{lengths, checked}
use Rattle.plane.proofs.Superblocks.{sb_end, sb_last}

module _ (s : Plane) (steps : List ℕ) (g : Grid) (size : ℕ) (k : Checked s steps g size) where
  -- an edge of the plane, of accepted numbers, that has room
  abbrev pub Inside : Edge → Type 0
  Inside e = InPlane s.stride (4 * s.cols) (4 * s.rows) e size

  module _ (dir r c : ℕ) (clear : lacks_dir s g dir ≡ None) (at : Cell s r c) where
    room : is_edge s g dir r c ≡ true → edge_room s g dir r c ≡ true
    unfolding lacks_dir lacks_row lacks_room
    room edge =
        let row = nothing_all (λ y. lacks_row s g dir y) s.rows clear r at.in_rows in
        let one = nothing_all (λ x. lacks_room s g dir r x) s.cols row c at.in_cols in
        pick_yes (is_edge s g dir r c) (edge_room s g dir r c) true _ (sym edge) refl ∙ unless_nothing _ _ one

    inside : is_edge s g dir r c ≡ true → Inside (edge_at s steps g dir r c)
    unfolding edge_at q_threshold side_threshold edge_room has_room
    inside edge = record {
      pair_is = pair_below _ _ _ refl;
      q_most = both_most 2048 _ _ (q_most s.depth steps _ k.depth k.steps_ok) (q_most s.depth steps _ k.depth k.steps_ok);
      side_most = both_most 839 _ _ (side_most s.depth _ k.depth) (side_most s.depth _ k.depth);
      row = k.sizes_ok.wide;
      plane = (lengths s g size k.lengths).samples;
      room = room edge;
    }

    visit_inside : Each Inside (visit_of s steps g dir r c)
    unfolding visit_of pick
    visit_inside = go (is_edge s g dir r c) refl
      where
        go : (t : Bool) → is_edge s g dir r c ≡ t → Each Inside (pick t (edge_at s steps g dir r c ∷ []) [])
        go true e = (inside e, tt)
        go false e = tt

  pub both_clear : (lacks_dir s g 0 ≡ None) × (lacks_dir s g 1 ≡ None)
  unfolding no_room
  both_clear = sooner_nothing _ _ k.room

  -- the edges of a part of the cells
  pub sweep_inside : (dir row rows col cols : ℕ) → lacks_dir s g dir ≡ None → row + rows ≤ s.rows → col + cols ≤ s.cols → Each Inside (sweep_of s steps g dir row rows col cols)
  unfolding sweep_of pick
  sweep_inside dir row rows col cols clear h m = go (eqb dir 0)
    where
      one : (i j : ℕ) → i < rows → j < cols → Each Inside (visit_of s steps g dir (row + i) (col + j))
      one i j a b = visit_inside dir (row + i) (col + j) clear (record { in_rows = omega arith; in_cols = omega arith })

      go : (t : Bool) → Each Inside (pick t (each rows (λ i. each cols (λ j. visit_of s steps g dir (row + i) (col + j)))) (each cols (λ j. each rows (λ i. visit_of s steps g dir (row + i) (col + j)))))
      go true =
          each_loop Inside rows (λ i. each cols (λ j. visit_of s steps g dir (row + i) (col + j))) (λ i a.
          each_loop Inside cols (λ j. visit_of s steps g dir (row + i) (col + j)) (λ j b. one i j a b))
      go false =
          each_loop Inside cols (λ j. each rows (λ i. visit_of s steps g dir (row + i) (col + j))) (λ j b.
          each_loop Inside rows (λ i. visit_of s steps g dir (row + i) (col + j)) (λ i a. one i j a b))

  column_inside : (dir sb : ℕ) → sb < sb_cols s → lacks_dir s g dir ≡ None → Each Inside (column_of s steps g dir sb)
  unfolding column_of
  column_inside dir sb h clear = sweep_inside dir 0 s.rows (start_of s sb) (count_of s sb) clear (omega arith) (sb_end k.sizes_ok sb h)

  turn_inside : (sb : ℕ) → sb < sb_cols s → Each Inside (turn_of s steps g sb)
  unfolding turn_of pick
  turn_inside sb h = each_append Inside (column_of s steps g 0 sb) _ (column_inside 0 sb h both_clear.0) (go (eqb sb 0))
    where
      go : (t : Bool) → Each Inside (pick t [] (column_of s steps g 1 (sb - 1)))
      go true = tt
      go false = column_inside 1 (sb - 1) (omega arith) both_clear.1

  pub edges_inside : Each Inside (edges_of s steps g)
  unfolding edges_of
  edges_inside =
      each_append Inside (each (sb_cols s) (λ sb. turn_of s steps g sb)) (column_of s steps g 1 (sb_cols s - 1))
      (each_loop Inside (sb_cols s) (λ sb. turn_of s steps g sb) turn_inside)
      (column_inside 1 (sb_cols s - 1) (sb_last k.sizes_ok) both_clear.1)

-- the same of an accepted plane
pub every_edge : (s : Plane) (steps : List ℕ) (g : Grid) (l : List ℕ) → plane_check s steps g l ≡ Ok tt → Each (λ e. InPlane s.stride (4 * s.cols) (4 * s.rows) e (length l)) (edges_of s steps g)
every_edge s steps g l e = edges_inside s steps g (length l) (checked s steps g l e)
