-- Why the limit on the superblock width is needed: ticket 6, "with a width of one cell it would be false". The smallest plane found on which
-- superblocks one cell wide and the plain order leave other samples, computed from the rules. Assumes nothing.
use mathlib.Core.Path.{◌≡◌, refl}
use mathlib.Core.Bool.{false}
use mathlib.Core.List.{List, [], ◌∷◌, ◌++◌}
use Prim.Native.Nat.{ℕ}
use lib.IntN.{pos}
use lib.ListN.{get_or}
use Rattle.laws.specs.Choose.{pick, either, both}
use Rattle.laws.specs.Loops.{each, filled}
use Rattle.laws.specs.Stores.{puts}
use Rattle.laws.specs.Outside.{outside}
use Rattle.rules.specs.declared.settings.Plane.{Plane}
use Rattle.rules.specs.Numbers.{top_of, highest_of, offset_of, shift_of}
use Rattle.rules.specs.Thresholds.{index_of, step_of, quant_of, lowered, side_of, both_of, q_threshold, side_threshold}
use Rattle.rules.specs.Lengths.{length_before, length_after, most_before, most_after, reach_of, reach_before, reach_after, pair_of}
use Rattle.rules.specs.Width.{bend_of, slope_of, steep_of, at_distance, fails_of, from_of, far_of, wide_of, grade_of, width_of}
use Rattle.rules.specs.Segment.{edge_place, line_of, lines_of, window_of, chosen_of, line_stores, four_stores, stores_of, kept_in, segment_of, run_edges}
use Rattle.rules.specs.Plane.{Grid, grid, cell_of, cell_before, marks_of, indices_of, capped_of, index_at, starts_tile, shortened_at, edge_at, is_edge, visit_of, start_of, count_of, sb_cols, sweep_of, column_of, turn_of, edges_of, kept_by, run_plane}
use Rattle.orders.specs.Walks.{plain_of}

-- sixteen by eight samples in superblocks one cell wide, which no entry accepts
abbrev pub settings : Plane
settings = record { cols = 4; rows = 2; stride = 16; width = 16; height = 8; sbw = 1; sbh = 8; chroma = false; depth = 8; deltaq = pos 0; deltaside = pos 0 }

abbrev pub steps : List ℕ
steps = 64 ∷ each 351 (λ k. 1100 ∷ [])

-- the same number in each of eight cells
abbrev pub eight : ℕ → List ℕ
eight n = each 8 (λ k. n ∷ [])

-- a vertical edge before the third column, and a horizontal one below the first cell
abbrev pub cells : Grid
cells = grid (0 ∷ 0 ∷ 1 ∷ 0 ∷ 0 ∷ 0 ∷ 0 ∷ 0 ∷ []) (0 ∷ 0 ∷ 0 ∷ 0 ∷ 1 ∷ 0 ∷ 0 ∷ 0 ∷ []) (eight 2) (eight 0) (eight 120)

-- four rows of eight times a and eight times b
abbrev pub rows_of : ℕ → ℕ → List ℕ
rows_of a b = each 4 (λ k. eight a ++ eight b)

abbrev pub samples : List ℕ
samples = rows_of 100 102 ++ rows_of 102 104

-- the sample at x = 5 of the first row: 100 by superblocks one cell wide, where the horizontal edge comes first, and 101 by the plain order
pub one_cell_differs : (get_or (run_plane settings steps cells samples) 5 0 ≡ 100) × (get_or (run_edges 255 16 (kept_by settings cells) (plain_of settings steps cells) samples) 5 0 ≡ 101)
unfolding each filled puts outside pick either both top_of highest_of offset_of shift_of index_of step_of quant_of lowered side_of both_of q_threshold side_threshold length_before length_after most_before most_after reach_of reach_before reach_after pair_of bend_of slope_of steep_of at_distance fails_of from_of far_of wide_of grade_of
    width_of edge_place line_of lines_of window_of chosen_of line_stores four_stores stores_of kept_in segment_of run_edges cell_of cell_before marks_of indices_of capped_of index_at starts_tile shortened_at is_edge edge_at visit_of start_of count_of sb_cols sweep_of column_of turn_of edges_of run_plane plain_of
one_cell_differs = (refl, refl)
