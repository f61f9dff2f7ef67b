-- A plane whose record is computed from the rules: two cells, 100 | 108, with a marked vertical edge between them. Its record takes 15 bytes.
-- Assumes nothing.
use mathlib.Core.Path.{◌≡◌, refl, ap, ◌∙◌}
use mathlib.Core.List.{List, [], ◌∷◌}
use Prim.Native.Nat.{ℕ}
use Rattle.laws.specs.Choose.{pick, both}
use Rattle.laws.specs.Loops.{each}
use Rattle.laws.specs.Sums.{sum}
use Rattle.low_first.specs.Bytes.{low_first}
use Rattle.rules.specs.declared.refusals.Refusal.TheVariants.{Buffer}
use Rattle.rules.specs.Refusals.{Answer}
use Rattle.std.specs.declared.result.Result.TheVariants.{Ok, Err}
use Rattle.rules.specs.Numbers.{highest_of, offset_of, shift_of}
use Rattle.rules.specs.Refusals.{or_else, unless, settle}
use Rattle.rules.specs.Thresholds.{index_of, step_of, quant_of, lowered, side_of, both_of, q_threshold, side_threshold}
use Rattle.rules.specs.Lengths.{pair_of}
use Rattle.rules.specs.Plane.{cell_of, cell_before, marks_of, indices_of, capped_of, index_at, shortened_at, edge_at, is_edge, visit_of, start_of, count_of, sb_cols, sweep_of, column_of, turn_of, edges_of, run_plane, run_stored, run_changed, plane_after, plane_stored, plane_changed}
use Rattle.rules.specs.Record.{entry_of, entries_of, record_of, buffer_after, edge_count, recorded_check, answer_bytes, recorded_answer, recorded_plane, recorded_buffer, recorded_stored, recorded_changed}
use Rattle.promises.proofs.Witness.{settings, steps, cells, four, samples, accepted, witness}
use Rattle.recorded.specs.Stated.{Stated}

-- a buffer with room for the record and two bytes more, and one with a byte less than the record
abbrev pub roomy : List ℕ
roomy = 7 ∷ 7 ∷ 7 ∷ 7 ∷ 7 ∷ 7 ∷ 7 ∷ 7 ∷ 7 ∷ 7 ∷ 7 ∷ 7 ∷ 7 ∷ 7 ∷ 7 ∷ 7 ∷ 7 ∷ []

abbrev pub short : List ℕ
short = 7 ∷ 7 ∷ 7 ∷ 7 ∷ 7 ∷ 7 ∷ 7 ∷ 7 ∷ 7 ∷ 7 ∷ 7 ∷ 7 ∷ 7 ∷ 7 ∷ []

edges : edges_of settings steps (cells 0) ≡ record { x = 4; y = 0; dir = 0; pair = 1; q = 16; side = 23 } ∷ []
unfolding each pick both highest_of offset_of shift_of index_of step_of quant_of lowered side_of both_of q_threshold side_threshold pair_of cell_of cell_before marks_of indices_of capped_of index_at shortened_at is_edge edge_at visit_of start_of count_of sb_cols sweep_of column_of turn_of edges_of
edges = refl

marked : edge_count settings (cells 0) ≡ 1
unfolding sum pick both cell_of marks_of is_edge edge_count
marked = refl

-- the plane afterwards, as without a record
left : four (100 ∷ 101 ∷ 102 ∷ 103 ∷ 105 ∷ 106 ∷ 107 ∷ 108 ∷ []) ≡ run_plane settings steps (cells 0) samples
unfolding plane_after settle
left = witness.plane ∙ ap (λ (a : Answer). settle a samples (run_plane settings steps (cells 0) samples)) accepted.0

counted : (24 ≡ run_stored settings steps (cells 0) samples) × (24 ≡ run_changed settings steps (cells 0) samples)
unfolding plane_stored plane_changed settle
counted = (
  witness.stored ∙ ap (λ (a : Answer). settle a 0 (run_stored settings steps (cells 0) samples)) accepted.0,
  witness.changed ∙ ap (λ (a : Answer). settle a 0 (run_changed settings steps (cells 0) samples)) accepted.0,
)

given_room : recorded_check settings steps (cells 0) samples 17 ≡ Ok tt
unfolding recorded_check or_else unless
given_room = rw (accepted.0, marked)

lacks_room_holds : recorded_check settings steps (cells 0) samples 14 ≡ Err Buffer
unfolding recorded_check or_else unless
lacks_room_holds = rw (accepted.0, marked)

-- what `record_plane` must answer and leave: EDG, 1, and the edge at 4,0 of direction 0 with pair 1, q 16 and side 23
pub recorded : Stated settings steps (cells 0) samples roomy (Ok (record { bytes = 15; stored = 24; changed = 24 })) (four (100 ∷ 101 ∷ 102 ∷ 103 ∷ 105 ∷ 106 ∷ 107 ∷ 108 ∷ []))
    (69 ∷ 68 ∷ 71 ∷ 1 ∷ 0 ∷ 4 ∷ 0 ∷ 0 ∷ 0 ∷ 0 ∷ 1 ∷ 16 ∷ 0 ∷ 23 ∷ 0 ∷ 7 ∷ 7 ∷ [])
unfolding recorded_answer answer_bytes recorded_plane recorded_buffer recorded_stored recorded_changed settle buffer_after record_of entries_of entry_of low_first
recorded = record {
  answer = rw (given_room, edges);
  plane = rw given_room left;
  buffer = rw (given_room, edges);
  stored = rw given_room counted.0;
  changed = rw given_room counted.1;
}

-- a byte too few: 10, both lists as lent, and nothing counted
pub refused : Stated settings steps (cells 0) samples short (Err Buffer) samples short
unfolding recorded_answer answer_bytes recorded_plane recorded_buffer recorded_stored recorded_changed settle
refused = record { answer = rw lacks_room_holds; plane = rw lacks_room_holds; buffer = rw lacks_room_holds; stored = rw lacks_room_holds; changed = rw lacks_room_holds }
