-- Document 01, "Order of checks: 1,2,3,4,5,9,6,7,8", and the tickets': inputs with two faults at once, each refused by the earlier one. Computed from the rules.
-- Assumes nothing.
use Rattle.std.specs.Prelude.{◌≡◌, refl, List, [], ◌∷◌, ◌++◌, ℕ, pos}
use Rattle.laws.specs.Choose.{pick, either, both, all}
use Rattle.laws.specs.Loops.{each}
use Rattle.low_first.specs.Bytes.{number_in}
use Rattle.rules.specs.declared.settings.Lone.{Lone}
use Rattle.rules.specs.declared.settings.Replay.{Replay}
use Rattle.rules.specs.declared.settings.TuGrid.{TuGrid}
use Rattle.rules.specs.declared.settings.Keep.{Keep}
use Rattle.rules.specs.declared.refusals.Refusal.TheVariants.{Depth, Size, Length, Steps, Setting, Cell, Room, Sample, Leaf, Header, Cut, Entry}
use Rattle.std.specs.declared.result.Result.TheVariants.{Ok, Err}
use Rattle.rules.specs.Numbers.{depth_ok, top_of, in_range, in_range_z, delta_ok, subsampling_ok}
use Rattle.rules.specs.Refusals.{or_else, unless, found, sooner, first, found_if, found_unless, over_top, over_row, over_box}
use Rattle.rules.specs.Thresholds.{step_good, bad_step, steps_check, deltas_check, thresholds_check}
use Rattle.rules.specs.Lengths.{length_before, length_after, reach_of, reach_before, reach_after}
use Rattle.rules.specs.Segment.{ranges_ok, has_room}
use Rattle.rules.specs.Lone.{edge_of, sizes_ok, settings_ok, over_edge, lone_check}
use Rattle.rules.specs.TuGrid.{Marks, marks, flag_of, bare_of, is_size, cells_ok, cap_ok, fours_ok, leaf_good, leaf_good_at, bad_leaf, lists_long, tx_grid_check}
use Rattle.rules.specs.Plane.{bad_keep}
use Rattle.rules.specs.Keep.{keep_check}
use Rattle.rules.specs.Record.{header, edge_in, entry_at, entry_count, edges_in}
use Rattle.rules.specs.Replay.{replay_sizes_ok, header_ok, cut_entry, first_entry, record_check, replay_long, replay_check}
use Rattle.rules.specs.Figures.{flat, edge}

-- a lone segment on four rows of sixteen samples, with settings that may be bad
abbrev lone : ℕ → ℕ → ℕ → ℕ → Lone
lone depth columns q x = record { columns = columns; rows = 4; stride = 16; depth = depth; q = q; side = 40; pair = 3; dir = 0; x = x; y = 0 }

-- a TU grid of one cell, with a cap that may be bad
abbrev cell : ℕ → ℕ → TuGrid
cell cols cap = record { cols = cols; rows = 1; ssx = 0; ssy = 0; capw = cap; caph = 8 }

abbrev one : Marks
one = marks (0 ∷ []) (0 ∷ []) (0 ∷ []) (0 ∷ [])

abbrev none : Marks
none = marks [] [] [] []

-- leaf 1 is bad
abbrev bad : List ℕ
bad = 0 ∷ 0 ∷ 1 ∷ 1 ∷ 0 ∷ 0 ∷ 3 ∷ 1 ∷ []

-- keep marks of four cells: none is kept, and the third is bad
abbrev unkept : List ℕ
unkept = 0 ∷ 0 ∷ 0 ∷ 0 ∷ []

abbrev third : List ℕ
third = 0 ∷ 1 ∷ 2 ∷ 3 ∷ []

-- a rectangle far beyond a plane of one row
abbrev far : ℕ → Keep
far cols = record { cols = cols; rows = 1; row = 7; col = 7; h = 7; w = 7 }

-- a record to be run on four rows of sixteen samples, and an entry of it: the figures' edge, with numbers that may be bad
abbrev pub again : ℕ → ℕ → Replay
again depth cols = record { cols = cols; rows = 1; stride = 16; depth = depth }

abbrev pub entry : ℕ → ℕ → ℕ → List ℕ
entry x dir pair = x ∷ 0 ∷ 0 ∷ 0 ∷ dir ∷ pair ∷ 8 ∷ 0 ∷ 40 ∷ 0 ∷ []

pub record Orders : Type 0 where
  pub thresholds_1_4 : thresholds_check 9 [] (pos 0) (pos 0) ≡ Err Depth
  pub thresholds_4_5 : thresholds_check 8 [] (pos 128) (pos 0) ≡ Err (Steps 0)
  pub lone_1_2 : lone_check (lone 9 0 8 8) [] ≡ Err Depth
  pub lone_2_3 : lone_check (lone 8 0 8 8) [] ≡ Err Size
  pub lone_3_5 : lone_check (lone 8 16 2049 8) [] ≡ Err Length
  pub lone_5_7 : lone_check (lone 8 16 2049 0) (flat 100 108) ≡ Err Setting
  pub lone_7_8 : lone_check (lone 8 16 8 7) (flat 256 108) ≡ Err (Room 0)
  pub lone_8 : lone_check (lone 8 16 8 8) (flat 100 256) ≡ Err (Sample 8)
  pub lone_good : lone_check (lone 8 16 8 8) (flat 100 108) ≡ Ok tt
  pub replay_1_2 : replay_check (again 9 0) [] [] [] ≡ Err Depth
  pub replay_2_3 : replay_check (again 8 0) [] [] [] ≡ Err Size
  pub replay_3_11 : replay_check (again 8 4) [] unkept [] ≡ Err Length
  pub replay_keep_3_11 : replay_check (again 8 4) [] (0 ∷ 0 ∷ 0 ∷ []) (flat 100 108) ≡ Err Length
  pub replay_mark_12 : replay_check (again 8 4) (69 ∷ 68 ∷ 72 ∷ 1 ∷ 0 ∷ 8 ∷ []) unkept (flat 100 108) ≡ Err Header
  pub replay_version : replay_check (again 8 4) (69 ∷ 68 ∷ 71 ∷ 2 ∷ 0 ∷ []) unkept (flat 100 108) ≡ Err Header
  pub replay_4_bytes : replay_check (again 8 4) (69 ∷ 68 ∷ 71 ∷ 1 ∷ []) unkept (flat 100 108) ≡ Err Header
  pub replay_12_13 : replay_check (again 8 4) (header ++ (entry 8 2 3 ++ (8 ∷ []))) third (flat 100 108) ≡ Err (Cut 1)
  pub replay_13_6 : replay_check (again 8 4) (header ++ (entry 7 0 3 ++ entry 8 0 8)) third (flat 100 108) ≡ Err (Entry 1)
  pub replay_6_7 : replay_check (again 8 4) (header ++ entry 7 0 3) third (flat 100 108) ≡ Err (Cell 2)
  pub replay_7_8 : replay_check (again 8 4) (header ++ (entry 8 0 3 ++ entry 9 0 3)) unkept (flat 256 108) ≡ Err (Room 1)
  pub replay_8 : replay_check (again 8 4) (header ++ entry 8 0 3) unkept (flat 100 256) ≡ Err (Sample 8)
  pub replay_bare : replay_check (again 8 4) header unkept (flat 100 108) ≡ Ok tt
  pub replay_good : replay_check (again 8 4) (header ++ entry 8 0 3) unkept (flat 100 108) ≡ Ok tt
  pub replay_in_order : edges_in (header ++ (entry 8 0 3 ++ (entry 8 0 2 ++ entry 9 0 1))) ≡ edge 3 8 ∷ edge 2 8 ∷ record { x = 9; y = 0; dir = 0; pair = 1; q = 8; side = 40 } ∷ []
  pub replay_twice : edges_in (header ++ (entry 8 0 3 ++ entry 8 0 3)) ≡ edge 3 8 ∷ edge 3 8 ∷ []
  pub grid_2_3 : tx_grid_check (cell 0 8) (0 ∷ []) [] one [] ≡ Err Size
  pub grid_3_5 : tx_grid_check (cell 1 3) [] [] none (2 ∷ []) ≡ Err Length
  pub grid_keep_3_5 : tx_grid_check (cell 1 3) [] [] one [] ≡ Err Length
  pub grid_5_9 : tx_grid_check (cell 1 3) bad [] one (2 ∷ []) ≡ Err Setting
  pub grid_9 : tx_grid_check (cell 1 8) bad (0 ∷ 0 ∷ 4097 ∷ 1 ∷ []) one (2 ∷ []) ≡ Err (Leaf 1)
  pub grid_skip : tx_grid_check (cell 1 8) [] (0 ∷ 0 ∷ 4097 ∷ 1 ∷ []) one (2 ∷ []) ≡ Err (Leaf 0)
  pub keep_2_3 : keep_check (far 0) [] ≡ Err Size
  pub keep_3_6 : keep_check (far 2) (2 ∷ []) ≡ Err Length
  pub keep_6 : keep_check (far 2) (1 ∷ 2 ∷ []) ≡ Err (Cell 1)
  pub keep_beyond : keep_check (far 2) (1 ∷ 0 ∷ 2 ∷ []) ≡ Ok tt

pub orders : Orders
unfolding pick either both all depth_ok top_of in_range in_range_z delta_ok subsampling_ok or_else unless found sooner first found_if found_unless over_top over_row over_box step_good bad_step steps_check deltas_check thresholds_check length_before length_after reach_of reach_before reach_after ranges_ok has_room edge_of
    sizes_ok settings_ok over_edge lone_check each number_in edge_in entry_at entry_count edges_in replay_sizes_ok header_ok cut_entry first_entry record_check replay_long bad_keep replay_check flag_of bare_of is_size cells_ok cap_ok fours_ok leaf_good leaf_good_at bad_leaf lists_long tx_grid_check keep_check
orders = record {
  thresholds_1_4 = refl;
  thresholds_4_5 = refl;
  lone_1_2 = refl;
  lone_2_3 = refl;
  lone_3_5 = refl;
  lone_5_7 = refl;
  lone_7_8 = refl;
  lone_8 = refl;
  lone_good = refl;
  replay_1_2 = refl;
  replay_2_3 = refl;
  replay_3_11 = refl;
  replay_keep_3_11 = refl;
  replay_mark_12 = refl;
  replay_version = refl;
  replay_4_bytes = refl;
  replay_12_13 = refl;
  replay_13_6 = refl;
  replay_6_7 = refl;
  replay_7_8 = refl;
  replay_8 = refl;
  replay_bare = refl;
  replay_good = refl;
  replay_in_order = refl;
  replay_twice = refl;
  grid_2_3 = refl;
  grid_3_5 = refl;
  grid_keep_3_5 = refl;
  grid_5_9 = refl;
  grid_9 = refl;
  grid_skip = refl;
  keep_2_3 = refl;
  keep_3_6 = refl;
  keep_6 = refl;
  keep_beyond = refl;
}
