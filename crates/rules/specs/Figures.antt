-- Document 01, "Figures to hold against it": those marked *, as one table under one statement. Each is computed from the rules.
-- Assumes nothing.
use Rattle.std.specs.Prelude.{◌≡◌, refl, true, false, List, [], ◌∷◌, ◌++◌, map, ℕ, ℤ, pos, neg_ℤ}
use Rattle.laws.specs.Choose.{pick, either, both}
use Rattle.laws.specs.Loops.{each, turns, filled}
use Rattle.laws.specs.Stores.{puts}
use Rattle.laws.specs.Outside.{outside}
use Rattle.rules.specs.declared.edge.Edge.{Edge}
use Rattle.rules.specs.declared.settings.TuGrid.{TuGrid}
use Rattle.rules.specs.declared.settings.Ccso.{Ccso}
use Rattle.rules.specs.Numbers.{top_of, offset_of, shift_of, down}
use Rattle.rules.specs.Thresholds.{quant_of, lowered, side_of, both_of}
use Rattle.rules.specs.Lengths.{length_before, length_after, most_before, most_after, reach_of, reach_before, reach_after}
use Rattle.rules.specs.Width.{bend_of, slope_of, steep_of, at_distance, fails_of, from_of, far_of, wide_of, grade_of, width_of}
use Rattle.rules.specs.Taps.{rounded}
use Rattle.rules.specs.Segment.{edge_place, line_of, lines_of, window_of, chosen_of, line_stores, four_stores, stores_of, none_kept, width_at, segment_of}
use Rattle.rules.specs.TuGrid.{Marks, marks, flag_of, bare_of, size_of, log2_of, whole_of, tile_of, mark_of, store_cell, paint_cell, paint_row, paint_of, leaf_of, leaves_of, clear_of, tx_grid_of}
use Rattle.rules.specs.Ccso.{offset_place, offset_sample}

-- ---- the settings of the figures

abbrev eight : ℕ → List ℕ
eight x = x ∷ x ∷ x ∷ x ∷ x ∷ x ∷ x ∷ x ∷ []

-- four equal rows
abbrev pub four : List ℕ → List ℕ
four l = l ++ (l ++ (l ++ l))

-- four rows of sixteen samples, eight of a and eight of b
abbrev pub flat : ℕ → ℕ → List ℕ
flat a b = four (eight a ++ eight b)

-- the vertical edge in the middle, side 40
abbrev pub edge : ℕ → ℕ → Edge
edge pair q = record { x = 8; y = 0; dir = 0; pair = pair; q = q; side = 40 }

abbrev pub width : ℕ → ℕ → ℕ
width pair q = width_at 16 (edge pair q) (flat 100 108)

abbrev pub result : ℕ → ℕ → ℕ → ℕ → List ℕ
result pair q a b = segment_of 255 16 none_kept (edge pair q) (flat a b)

-- one row of sixteen cells, cap 8, and what the leaf 0,0,w,16 leaves in it
abbrev pub cells : TuGrid
cells = record { cols = 16; rows = 1; ssx = 0; ssy = 0; capw = 8; caph = 8 }

abbrev pub sixteen : ℕ → List ℕ
sixteen x = eight x ++ eight x

abbrev pub leaf : ℕ → Marks
leaf w = tx_grid_of cells (0 ∷ 0 ∷ w ∷ 16 ∷ []) [] (marks (sixteen 9) (sixteen 9) (sixteen 9) (sixteen 9))

-- depth 10, scale 2, band log2 2
abbrev pub bands : Ccso
bands = record { width = 1; height = 1; ssx = 0; ssy = 0; depth = 10; scale = 2; lo = pos 0; hi = pos 0; below = 0; within = 1; above = 2; dx0 = pos 0; dy0 = pos 0; dx1 = pos 0; dy1 = pos 0; bandlog = 2 }

-- ---- the table

pub record Figures : Type 0 where
  -- step 507 gives q 0, 508 gives 1
  pub steps : map quant_of (507 ∷ 508 ∷ []) ≡ 0 ∷ 1 ∷ []
  -- q 4 and 7 combine to 6, 0 and 7 to 7
  pub blocks : map (λ q. both_of q 7) (4 ∷ 0 ∷ []) ≡ 6 ∷ 7 ∷ []
  -- depth 8 side: index 78 gives 0, 79 gives 1
  pub side : map (λ i. side_of 8 (pos i)) (78 ∷ 79 ∷ []) ≡ 0 ∷ 1 ∷ []
  -- entry 295 gives 52, 210, 839 at depths 8, 10, 12
  pub last : side_of 8 (pos 295) ∷ side_of 10 (pos 343) ∷ side_of 12 (pos 391) ∷ [] ≡ 52 ∷ 210 ∷ 839 ∷ []
  -- moves before division: 1024 gives 1, -1024 gives 0, -1025 gives -1
  pub moves : map rounded (pos 1024 ∷ neg_ℤ (pos 1024) ∷ neg_ℤ (pos 1025) ∷ []) ≡ pos 1 ∷ pos 0 ∷ neg_ℤ (pos 1) ∷ []
  -- flat 100 | 108, side 40, lengths 18,18: q 3,4,6,7,8 give w 1,2,4,6,8
  pub widths : map (width 3) (3 ∷ 4 ∷ 6 ∷ 7 ∷ 8 ∷ []) ≡ 1 ∷ 2 ∷ 4 ∷ 6 ∷ 8 ∷ []
  -- lengths 8,8 and q 6 give 3
  pub short : width 1 6 ≡ 3
  -- q 8 above: p0.. = 104,103,103,102,102,101,101,100; q0.. = 104,105,105,106,106,107,107,108
  pub wide : result 3 8 100 108 ≡ four (100 ∷ 101 ∷ 101 ∷ 102 ∷ 102 ∷ 103 ∷ 103 ∷ 104 ∷ 104 ∷ 105 ∷ 105 ∷ 106 ∷ 106 ∷ 107 ∷ 107 ∷ 108 ∷ [])
  -- with 14,18: p0.. = 104,103,103,102,101,101,100,100
  pub uneven : result 4 8 100 108 ≡ four (100 ∷ 100 ∷ 101 ∷ 101 ∷ 102 ∷ 103 ∷ 103 ∷ 104 ∷ 104 ∷ 105 ∷ 105 ∷ 106 ∷ 106 ∷ 107 ∷ 107 ∷ 108 ∷ [])
  -- 100 | 92, q 3: p0 = 97, q0 = 95
  pub falling : result 3 3 100 92 ≡ four (100 ∷ 100 ∷ 100 ∷ 100 ∷ 100 ∷ 100 ∷ 100 ∷ 97 ∷ 95 ∷ 92 ∷ 92 ∷ 92 ∷ 92 ∷ 92 ∷ 92 ∷ 92 ∷ [])
  -- leaf 0,0,16,16, cap 8: vertical marks at 0 and 8, index 3
  pub tiled : (leaf 16).vedge ≡ (1 ∷ 0 ∷ 0 ∷ 0 ∷ 0 ∷ 0 ∷ 0 ∷ 0 ∷ []) ++ (1 ∷ 0 ∷ 0 ∷ 0 ∷ 0 ∷ 0 ∷ 0 ∷ 0 ∷ [])
  pub tiled_index : (leaf 16).sqw ≡ sixteen 3
  -- with 4096, at 0 only, index 4
  pub whole : (leaf 4112).vedge ≡ (1 ∷ 0 ∷ 0 ∷ 0 ∷ 0 ∷ 0 ∷ 0 ∷ 0 ∷ []) ++ eight 0
  pub whole_index : (leaf 4112).sqw ≡ sixteen 4
  -- c = 600, depth 10, b 2, classes 2,1: place 41; sample 5, offset -10, scale 2 gives 0
  pub place : offset_place bands 600 2 1 ≡ 41
  pub offset : offset_sample bands 5 (neg_ℤ (pos 10)) ≡ 0

pub figures : Figures
unfolding pick either both each turns filled puts outside top_of offset_of shift_of down quant_of lowered side_of both_of length_before length_after most_before most_after reach_of reach_before reach_after bend_of slope_of steep_of at_distance fails_of from_of far_of wide_of grade_of width_of edge_place line_of lines_of window_of
    chosen_of line_stores four_stores stores_of width_at segment_of flag_of bare_of size_of log2_of whole_of tile_of mark_of store_cell paint_cell paint_row paint_of leaf_of leaves_of clear_of tx_grid_of offset_place offset_sample
figures = record {
  steps = refl;
  blocks = refl;
  side = refl;
  last = refl;
  moves = refl;
  widths = refl;
  short = refl;
  wide = refl;
  uneven = refl;
  falling = refl;
  tiled = refl;
  tiled_index = refl;
  whole = refl;
  whole_index = refl;
  place = refl;
  offset = refl;
}
