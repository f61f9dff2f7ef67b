-- Calls that are computed from the rules: four cells one above the other, 100 over 108, with a marked horizontal edge between the first two. After 8 rows that edge waits;
-- after 12 it is done and no row is final, and the upper cell stays where it is kept; at 16, full height, nothing is left to do and all are final. Assumes nothing.
use mathlib.Core.Path.{◌≡◌, refl, sym}
use mathlib.Core.Bool.{true, false}
use mathlib.Core.List.{List, [], ◌∷◌, ◌++◌}
use Prim.Native.Nat.{ℕ}
use lib.IntN.{pos}
use Rattle.laws.specs.Choose.{pick, either, both, all}
use Rattle.laws.specs.Loops.{each, filled}
use Rattle.laws.specs.Stores.{puts}
use Rattle.laws.specs.Outside.{outside}
use Rattle.laws.specs.Changes.{differ, changes}
use Rattle.rules.specs.declared.edge.Edge.{Edge}
use Rattle.rules.specs.declared.settings.Plane.{Plane}
use Rattle.rules.specs.declared.rows.RowState.{RowState}
use Rattle.rules.specs.declared.refusals.Refusal.TheVariants.{Filled, Sample}
use Rattle.std.specs.declared.result.Result.TheVariants.{Ok, Err}
use Rattle.rules.specs.Numbers.{depth_ok, top_of, highest_of, offset_of, shift_of, in_range, in_range_z, delta_ok}
use Rattle.rules.specs.Refusals.{or_else, unless, found, settle, first, sooner, found_if, found_unless, over_top, over_row, over_box}
use Rattle.rules.specs.Thresholds.{index_of, step_of, quant_of, lowered, side_of, both_of, q_threshold, side_threshold, step_good, bad_step, steps_check, deltas_check}
use Rattle.rules.specs.Lengths.{length_before, length_after, most_before, most_after, reach_of, reach_before, reach_after, pair_of}
use Rattle.rules.specs.Width.{bend_of, slope_of, steep_of, at_distance, fails_of, from_of, far_of, wide_of, grade_of, width_of}
use Rattle.rules.specs.Segment.{edge_place, has_room, line_of, lines_of, window_of, chosen_of, line_stores, four_stores, stores_of, kept_in, segment_of, run_edges}
use Rattle.rules.specs.Counts.{stored_at, changed_at, stored_by, changed_by}
use Rattle.rules.specs.Plane.{Grid, keeping, kept_by, cell_of, cell_before, marks_of, indices_of, capped_of, index_at, shortened_at, edge_at, is_edge, visit_of, sweep_of}
use Rattle.rules.specs.Plane.{plane_sizes_ok, plane_lengths_ok, bad_start, tiles_check, cell_good, bad_cell, edge_room, lacks_room, lacks_row, lacks_dir, no_room}
use Rattle.rules.specs.Rows.{fresh, ready, band_of, call_edges, final_of, settings_check, count_ok, counts_ok, over_new, rows_check, rows_after, rows_stored, rows_changed, spent_by, state_after, rows_state, rows_final}
use Rattle.promises.proofs.Witness.{steps, four}
use Rattle.rows.specs.Stated.{Stated}

-- four by sixteen samples
abbrev pub settings : Plane
settings = record { cols = 1; rows = 4; stride = 4; width = 4; height = 16; sbw = 8; sbh = 8; chroma = false; depth = 8; deltaq = pos 0; deltaside = pos 0 }

-- the first cell's keep mark is given
abbrev pub cells : ℕ → Grid
cells kept = keeping (0 ∷ 0 ∷ 0 ∷ 0 ∷ []) (0 ∷ 1 ∷ 0 ∷ 0 ∷ []) (1 ∷ 1 ∷ 1 ∷ 1 ∷ []) (1 ∷ 1 ∷ 1 ∷ 1 ∷ []) (200 ∷ 200 ∷ 200 ∷ 200 ∷ []) [] (kept ∷ 0 ∷ 0 ∷ 0 ∷ [])

-- a row of four equal samples, and four such rows
abbrev row : ℕ → List ℕ
row v = v ∷ v ∷ v ∷ v ∷ []

-- sixteen rows, of which the last eight are given
abbrev pub picture : List ℕ → List ℕ
picture last = four (row 100) ++ (four (row 108) ++ last)

-- the rows that are not filled hold samples over top
abbrev pub rubbish : List ℕ
rubbish = four (row 999) ++ four (row 999)

-- what is filtered: three samples each side of the edge, in four columns
abbrev below : List ℕ → List ℕ
below last = row 105 ++ (row 106 ++ (row 107 ++ (row 108 ++ last)))

abbrev pub smoothed : List ℕ → List ℕ
smoothed last = row 100 ++ (row 101 ++ (row 102 ++ (row 103 ++ below last)))

good : (settings_check settings steps (cells 0) 64 ≡ Ok tt) × (settings_check settings steps (cells 1) 64 ≡ Ok tt)
unfolding each pick either both all depth_ok top_of in_range in_range_z delta_ok or_else unless found first sooner found_if found_unless over_top over_row over_box step_good bad_step steps_check deltas_check length_before length_after reach_of reach_before reach_after pair_of has_room cell_of cell_before marks_of indices_of
    capped_of index_at shortened_at is_edge plane_sizes_ok plane_lengths_ok bad_start tiles_check cell_good bad_cell edge_room lacks_room lacks_row lacks_dir no_room settings_check
good = (refl, refl)

-- the state after eight rows, and after twelve
abbrev held : ℕ → RowState
held n = record { held = n; spent = false }

-- ---- eight rows: nothing is due

checked_8 : rows_check settings steps (cells 0) fresh 8 (picture rubbish) ≡ Ok tt
unfolding rows_check or_else unless found counts_ok count_ok over_new over_box over_row over_top first sooner found_if top_of all both
checked_8 = rw good.0

none_due : call_edges settings steps (cells 0) fresh 8 ≡ []
unfolding call_edges band_of ready each pick both cell_of marks_of is_edge visit_of sweep_of
none_due = refl

pub waits : Stated settings steps (cells 0) fresh 8 (picture rubbish) (record { answer = Ok tt; stored = 0; changed = 0; state = held 8; finalrows = 0 }) (picture rubbish)
unfolding rows_after rows_stored rows_changed rows_state rows_final state_after settle final_of pick run_edges stored_by changed_by
waits = record {
  answer = sym checked_8;
  plane = rw (checked_8, none_due);
  stored = rw (checked_8, none_due);
  changed = rw (checked_8, none_due);
  state = rw checked_8;
  final_rows = rw checked_8;
}

-- ---- twelve rows: the edge at y = 4, with y + 8 = 12

abbrev twelve : List ℕ
twelve = picture (four (row 108) ++ four (row 999))

checked_12 : rows_check settings steps (cells 0) (held 8) 12 twelve ≡ Ok tt
unfolding rows_check or_else unless found counts_ok count_ok over_new over_box over_row over_top first sooner found_if top_of all both
checked_12 = rw good.0

abbrev edge : Edge
edge = record { x = 0; y = 4; dir = 1; pair = 1; q = 16; side = 23 }

one_due : (kept : ℕ) → call_edges settings steps (cells kept) (held 8) 12 ≡ edge ∷ []
unfolding call_edges band_of ready each pick both highest_of offset_of shift_of index_of step_of quant_of lowered side_of both_of q_threshold side_threshold pair_of cell_of cell_before marks_of indices_of capped_of index_at shortened_at is_edge edge_at visit_of sweep_of
one_due kept = refl

filtered : (segment_of 255 4 (kept_by settings (cells 0)) edge twelve ≡ smoothed (four (row 108) ++ four (row 999)))
    × (stored_at 255 4 (kept_by settings (cells 0)) edge twelve ≡ 24)
    × (changed_at 255 4 (kept_by settings (cells 0)) edge twelve ≡ 24)
unfolding each filled puts outside pick either both length_before length_after most_before most_after reach_of reach_before reach_after bend_of slope_of steep_of at_distance fails_of from_of far_of wide_of grade_of width_of edge_place line_of lines_of window_of chosen_of line_stores four_stores stores_of kept_in segment_of differ changes stored_at changed_at
filtered = (refl, refl, refl)

pub runs : Stated settings steps (cells 0) (held 8) 12 twelve (record { answer = Ok tt; stored = 24; changed = 24; state = held 12; finalrows = 0 }) (smoothed (four (row 108) ++ four (row 999)))
unfolding rows_after rows_stored rows_changed rows_state rows_final state_after settle final_of pick top_of run_edges stored_by changed_by
runs = record {
  answer = sym checked_12;
  plane = rw (checked_12, one_due 0) (sym filtered.0);
  stored = rw (checked_12, one_due 0, filtered.1);
  changed = rw (checked_12, one_due 0, filtered.2);
  state = rw checked_12;
  final_rows = rw checked_12;
}

-- the same with the first cell kept: its samples are read and not stored, and half as many are counted
checked_kept : rows_check settings steps (cells 1) (held 8) 12 twelve ≡ Ok tt
unfolding rows_check or_else unless found counts_ok count_ok over_new over_box over_row over_top first sooner found_if top_of all both
checked_kept = rw good.1

filtered_kept : (segment_of 255 4 (kept_by settings (cells 1)) edge twelve ≡ four (row 100) ++ below (four (row 108) ++ four (row 999)))
    × (stored_at 255 4 (kept_by settings (cells 1)) edge twelve ≡ 12)
    × (changed_at 255 4 (kept_by settings (cells 1)) edge twelve ≡ 12)
unfolding each filled puts outside pick either both length_before length_after most_before most_after reach_of reach_before reach_after bend_of slope_of steep_of at_distance fails_of from_of far_of wide_of grade_of width_of edge_place line_of lines_of window_of chosen_of line_stores four_stores stores_of kept_in segment_of differ changes stored_at changed_at
filtered_kept = (refl, refl, refl)

pub runs_kept : Stated settings steps (cells 1) (held 8) 12 twelve (record { answer = Ok tt; stored = 12; changed = 12; state = held 12; finalrows = 0 }) (four (row 100) ++ below (four (row 108) ++ four (row 999)))
unfolding rows_after rows_stored rows_changed rows_state rows_final state_after settle final_of pick top_of run_edges stored_by changed_by
runs_kept = record {
  answer = sym checked_kept;
  plane = rw (checked_kept, one_due 1) (sym filtered_kept.0);
  stored = rw (checked_kept, one_due 1, filtered_kept.1);
  changed = rw (checked_kept, one_due 1, filtered_kept.2);
  state = rw checked_kept;
  final_rows = rw checked_kept;
}

-- ---- sixteen rows: nothing is left

abbrev sixteen : List ℕ
sixteen = smoothed (four (row 108) ++ four (row 108))

checked_16 : rows_check settings steps (cells 0) (held 12) 16 sixteen ≡ Ok tt
unfolding rows_check or_else unless found counts_ok count_ok over_new over_box over_row over_top first sooner found_if top_of all both
checked_16 = rw good.0

none_left : call_edges settings steps (cells 0) (held 12) 16 ≡ []
unfolding call_edges band_of ready each pick both cell_of marks_of is_edge visit_of sweep_of
none_left = refl

pub ends : Stated settings steps (cells 0) (held 12) 16 sixteen (record { answer = Ok tt; stored = 0; changed = 0; state = held 16; finalrows = 16 }) sixteen
unfolding rows_after rows_stored rows_changed rows_state rows_final state_after settle final_of pick run_edges stored_by changed_by
ends = record {
  answer = sym checked_16;
  plane = rw (checked_16, none_left);
  stored = rw (checked_16, none_left);
  changed = rw (checked_16, none_left);
  state = rw checked_16;
  final_rows = rw checked_16;
}

-- ---- refusals: a count that is no multiple of 4, a bad sample in the new rows, and a spent state

refused_14 : rows_check settings steps (cells 0) (held 8) 13 twelve ≡ Err Filled
unfolding rows_check or_else unless counts_ok count_ok all both
refused_14 = rw good.0

refused_8 : rows_check settings steps (cells 0) (held 8) 16 twelve ≡ Err (Sample 48)
unfolding rows_check or_else unless found counts_ok count_ok over_new over_box over_row over_top first sooner found_if top_of all both
refused_8 = rw good.0

pub odd_count : Stated settings steps (cells 0) (held 8) 13 twelve (record { answer = Err Filled; stored = 0; changed = 0; state = held 8; finalrows = 0 }) twelve
unfolding rows_after rows_stored rows_changed rows_state rows_final state_after spent_by settle pick
odd_count = record { answer = sym refused_14; plane = rw refused_14; stored = rw refused_14; changed = rw refused_14; state = rw refused_14; final_rows = rw refused_14 }

pub bad_sample : Stated settings steps (cells 0) (held 8) 16 twelve (record { answer = Err (Sample 48); stored = 0; changed = 0; state = record { held = 8; spent = true }; finalrows = 0 }) twelve
unfolding rows_after rows_stored rows_changed rows_state rows_final state_after spent_by settle pick
bad_sample = record { answer = sym refused_8; plane = rw refused_8; stored = rw refused_8; changed = rw refused_8; state = rw refused_8; final_rows = rw refused_8 }
