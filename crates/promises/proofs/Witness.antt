-- Planes that are accepted and changed, computed from the rules: two cells, 100 | 108, with a marked vertical edge between them, and the same with the first cell kept.
-- Assumes nothing.
use mathlib.Core.Path.{◌≡◌, refl, sym, ap, ◌∙◌}
use mathlib.Core.Bool.{false}
use mathlib.Core.List.{List, [], ◌∷◌, ◌++◌}
use Prim.Native.Nat.{ℕ}
use lib.IntN.{pos}
use Rattle.laws.specs.Choose.{pick, either, both, all}
use Rattle.laws.specs.Loops.{each, filled}
use Rattle.laws.specs.Stores.{puts}
use Rattle.laws.specs.Outside.{outside}
use Rattle.laws.specs.Changes.{differ, changes}
use Rattle.rules.specs.declared.settings.Plane.{Plane}
use Rattle.rules.specs.Refusals.{Answer}
use Rattle.std.specs.declared.result.Result.TheVariants.{Ok}
use Rattle.plane.specs.Checked.{Stated}
use Rattle.rules.specs.Numbers.{depth_ok, top_of, highest_of, offset_of, shift_of, in_range, in_range_z, delta_ok}
use Rattle.rules.specs.Refusals.{or_else, unless, found, settle, first, sooner, found_if, found_unless, over_top, over_row, over_box}
use Rattle.rules.specs.Thresholds.{index_of, step_of, quant_of, lowered, side_of, both_of, q_threshold, side_threshold, step_good, bad_step, steps_check, deltas_check}
use Rattle.rules.specs.Lengths.{length_before, length_after, most_before, most_after, reach_of, reach_before, reach_after, pair_of}
use Rattle.rules.specs.Width.{bend_of, slope_of, steep_of, at_distance, fails_of, from_of, far_of, wide_of, grade_of, width_of}
use Rattle.rules.specs.Segment.{edge_place, has_room, line_of, lines_of, window_of, chosen_of, line_stores, four_stores, stores_of, kept_in, segment_of, run_edges}
use Rattle.rules.specs.Counts.{stored_at, changed_at, stored_by, changed_by}
use Rattle.rules.specs.Plane.{Grid, keeping, cell_of, cell_before, marks_of, indices_of, capped_of, index_at, shortened_at, edge_at, is_edge, visit_of, start_of, count_of, sb_cols, sweep_of, column_of, turn_of, edges_of, run_plane, run_stored, run_changed}
use Rattle.rules.specs.Plane.{plane_sizes_ok, plane_lengths_ok, bad_start, tiles_check, cell_good, bad_cell, edge_room, lacks_room, lacks_row, lacks_dir, no_room, over_plane, plane_check, plane_after, plane_stored, plane_changed}

-- eight by four samples
abbrev pub settings : Plane
settings = record { cols = 2; rows = 1; stride = 8; width = 8; height = 4; sbw = 8; sbh = 8; chroma = false; depth = 8; deltaq = pos 0; deltaside = pos 0 }

-- 352 steps
abbrev pub steps : List ℕ
steps = 64 ∷ each 351 (λ k. 8192 ∷ [])

abbrev pub cells : ℕ → Grid
cells kept = keeping (0 ∷ 1 ∷ []) (0 ∷ 0 ∷ []) (1 ∷ 1 ∷ []) (1 ∷ 1 ∷ []) (200 ∷ 200 ∷ []) [] (kept ∷ 0 ∷ [])

-- four equal rows
abbrev pub four : List ℕ → List ℕ
four l = l ++ (l ++ (l ++ l))

abbrev pub samples : List ℕ
samples = four (100 ∷ 100 ∷ 100 ∷ 100 ∷ 108 ∷ 108 ∷ 108 ∷ 108 ∷ [])

pub accepted : (plane_check settings steps (cells 0) samples ≡ Ok tt) × (plane_check settings steps (cells 1) samples ≡ Ok tt)
unfolding each pick either both all depth_ok top_of in_range in_range_z delta_ok or_else unless found first sooner found_if found_unless over_top over_row over_box step_good bad_step steps_check deltas_check length_before length_after reach_of reach_before reach_after pair_of has_room cell_of cell_before marks_of indices_of
    capped_of index_at shortened_at is_edge plane_sizes_ok plane_lengths_ok bad_start tiles_check cell_good bad_cell edge_room lacks_room lacks_row lacks_dir no_room over_plane plane_check
accepted = (refl, refl)

-- three samples each side of four lines are stored, and each of them differs from before
filtered : (run_plane settings steps (cells 0) samples ≡ four (100 ∷ 101 ∷ 102 ∷ 103 ∷ 105 ∷ 106 ∷ 107 ∷ 108 ∷ [])) × (run_stored settings steps (cells 0) samples ≡ 24) × (run_changed settings steps (cells 0) samples ≡ 24)
unfolding each filled puts outside pick either both top_of highest_of offset_of shift_of index_of step_of quant_of lowered side_of both_of q_threshold side_threshold length_before length_after most_before most_after reach_of reach_before reach_after pair_of bend_of slope_of steep_of at_distance fails_of from_of far_of wide_of grade_of
    width_of edge_place line_of lines_of window_of chosen_of line_stores four_stores stores_of kept_in segment_of run_edges cell_of cell_before marks_of indices_of capped_of index_at shortened_at is_edge edge_at visit_of start_of count_of sb_cols sweep_of column_of turn_of edges_of run_plane differ changes stored_at changed_at stored_by
    changed_by run_stored run_changed
filtered = (refl, refl, refl)

-- kept samples are read and not stored: the other side is as before, and half as many are counted
filtered_kept : (run_plane settings steps (cells 1) samples ≡ four (100 ∷ 100 ∷ 100 ∷ 100 ∷ 105 ∷ 106 ∷ 107 ∷ 108 ∷ [])) × (run_stored settings steps (cells 1) samples ≡ 12) × (run_changed settings steps (cells 1) samples ≡ 12)
unfolding each filled puts outside pick either both top_of highest_of offset_of shift_of index_of step_of quant_of lowered side_of both_of q_threshold side_threshold length_before length_after most_before most_after reach_of reach_before reach_after pair_of bend_of slope_of steep_of at_distance fails_of from_of far_of wide_of grade_of
    width_of edge_place line_of lines_of window_of chosen_of line_stores four_stores stores_of kept_in segment_of run_edges cell_of cell_before marks_of indices_of capped_of index_at shortened_at is_edge edge_at visit_of start_of count_of sb_cols sweep_of column_of turn_of edges_of run_plane differ changes stored_at changed_at stored_by
    changed_by run_stored run_changed
filtered_kept = (refl, refl, refl)

-- the statement of an accepted plane, from what its run leaves and counts
told : (kept : ℕ) {m : List ℕ} {stored changed : ℕ} → plane_check settings steps (cells kept) samples ≡ Ok tt → run_plane settings steps (cells kept) samples ≡ m
    → run_stored settings steps (cells kept) samples ≡ stored → run_changed settings steps (cells kept) samples ≡ changed
    → Stated settings steps (cells kept) samples (Ok (record { stored = stored; changed = changed })) m
unfolding plane_after plane_stored plane_changed settle
told kept ok p n k = record {
  answer = sym ok;
  plane = sym (ap (λ (a : Answer). settle a samples (run_plane settings steps (cells kept) samples)) ok ∙ p);
  stored = sym (ap (λ (a : Answer). settle a 0 (run_stored settings steps (cells kept) samples)) ok ∙ n);
  changed = sym (ap (λ (a : Answer). settle a 0 (run_changed settings steps (cells kept) samples)) ok ∙ k);
}

-- what `deblock_plane` must answer and leave
pub witness : Stated settings steps (cells 0) samples (Ok (record { stored = 24; changed = 24 })) (four (100 ∷ 101 ∷ 102 ∷ 103 ∷ 105 ∷ 106 ∷ 107 ∷ 108 ∷ []))
witness = told 0 accepted.0 filtered.0 filtered.1 filtered.2

pub witness_kept : Stated settings steps (cells 1) samples (Ok (record { stored = 12; changed = 12 })) (four (100 ∷ 100 ∷ 100 ∷ 100 ∷ 105 ∷ 106 ∷ 107 ∷ 108 ∷ []))
witness_kept = told 1 accepted.1 filtered_kept.0 filtered_kept.1 filtered_kept.2
