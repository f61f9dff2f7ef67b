-- A frame with chroma and a kept cell that is accepted, and whose three planes have edges that run, so that no statement on accepted frames is empty.
-- Assumes nothing.
use mathlib.Core.Path.{◌≡◌, refl, ◌∙◌}
use mathlib.Core.Bool.{true, false}
use mathlib.Core.List.{List, [], ◌∷◌}
use Prim.Native.Nat.{ℕ}
use lib.IntN.{pos}
use lib.ListN.{replicate}
use Rattle.laws.specs.Choose.{pick, either, both, all}
use Rattle.laws.specs.Loops.{turns}
use Rattle.rules.specs.declared.settings.Frame.{Frame}
use Rattle.std.specs.declared.result.Result.TheVariants.{Ok}
use Rattle.rules.specs.Numbers.{depth_ok, top_of, in_range, in_range_z, delta_ok, subsampling_ok, down, up}
use Rattle.rules.specs.Refusals.{or_else, unless, found, only_if, sooner, first, found_if, found_unless, over_top, over_row, over_box}
use Rattle.rules.specs.Thresholds.{step_good, bad_step, steps_check}
use Rattle.rules.specs.Lengths.{reach_before, reach_after, reach_of, length_before, length_after, pair_of}
use Rattle.rules.specs.Segment.{has_room}
use Rattle.rules.specs.Plane.{Grid, keeping, cell_of, cell_before, marks_of, indices_of, capped_of, index_at, shortened_at, is_edge, edge_room, lacks_room, lacks_row, lacks_dir, no_room, over_plane, bad_start, tiles_check, bad_keep}
use Rattle.rules.specs.TuGrid.{flag_of, bare_of, is_size, log2_of, size_of, whole_of, tile_of, mark_of, store_cell, paint_cell, paint_row, paint_of, leaf_of, leaves_of, clear_of, tx_grid_of, cap_ok, fours_ok, leaf_good, leaf_good_at, bad_leaf}
use Rattle.rules.specs.QindexGrid.{superblock_of, q_cell, q_row, q_grid_of}
use Rattle.rules.specs.Frame.{Planes, Grids, Given, given, planes, grids, lent, up_to_eight, halved, superblocks, luma_plane, chroma_plane, luma_tu, chroma_tu, luma_q, chroma_q, chroma_on, built_grid, built_grids}
use Rattle.rules.specs.Frame.{frame_sizes, grid_long, luma_long, chroma_long, given_long, frame_lengths, frame_shape, frame_settings, frame_tiles, frame_leaves, frame_given, frame_keep, frame_early, frame_room, frame_samples, frame_late, frame_of}
use Rattle.frame_promises.proofs.Answers.{early_of, answer_is}

-- 8 by 8 samples of 4:2:0 at depth 8; TUs of one cell, so that the middle column and row of each plane are edges
abbrev small : Frame
small = record {
  width = 8;
  height = 8;
  ssx = 1;
  ssy = 1;
  haschroma = true;
  chromadeblock = true;
  depth = 8;
  deltay = pos 0;
  deltauv = pos 0;
  lumastride = 8;
  chromastride = 8;
  capw = 1;
  caph = 1;
  ccapw = 1;
  ccaph = 1;
}

abbrev leaf : ℕ → List ℕ
leaf n = 0 ∷ 0 ∷ n ∷ n ∷ []

-- one leaf over luma's four cells, one over chroma's four
abbrev lists : Given
lists = given (64 ∷ replicate 351 4004) (120 ∷ []) (leaf 2) (leaf 4) []

abbrev blank : ℕ → List ℕ
blank n = replicate n 0

abbrev samples : Planes
samples = planes (blank 64) (blank 64) (blank 64)

-- luma's first cell is kept
abbrev kept : List ℕ
kept = 1 ∷ blank 3

abbrev cells : Grids
cells = grids (keeping (blank 4) (blank 4) (blank 4) (blank 4) (blank 4) [] kept) (keeping (blank 4) (blank 4) (blank 4) (blank 4) (blank 4) [] (blank 4))

early : early_of small lists (lent samples cells) ≡ Ok tt
unfolding pick either both all depth_ok in_range in_range_z delta_ok subsampling_ok down or_else unless found only_if sooner first found_unless step_good bad_step steps_check flag_of bare_of is_size cap_ok fours_ok leaf_good leaf_good_at bad_leaf up_to_eight halved superblocks luma_plane chroma_plane chroma_on frame_sizes
    grid_long luma_long chroma_long given_long frame_lengths bad_start tiles_check bad_keep found_if over_top frame_shape frame_settings frame_tiles frame_leaves frame_given frame_keep frame_early
early = refl

-- every cell is a TU with both its edges marked
abbrev ones : List ℕ → Grid
ones ks = keeping (replicate 4 1) (replicate 4 1) (blank 4) (blank 4) (replicate 4 120) [] ks

built : built_grids small lists cells ≡ grids (ones kept) (ones (blank 4))
unfolding pick either both turns down up flag_of bare_of log2_of size_of whole_of tile_of mark_of store_cell paint_cell paint_row paint_of leaf_of leaves_of clear_of tx_grid_of superblock_of q_cell q_row q_grid_of up_to_eight halved superblocks luma_plane chroma_plane luma_tu chroma_tu luma_q chroma_q chroma_on built_grid built_grids
built = refl

room : frame_room small (grids (ones kept) (ones (blank 4))) ≡ Ok tt
unfolding pick both all down or_else found only_if sooner first found_unless pair_of reach_before reach_after reach_of length_before length_after has_room cell_of cell_before marks_of indices_of capped_of index_at shortened_at is_edge edge_room lacks_room lacks_row lacks_dir no_room up_to_eight halved luma_plane chroma_plane chroma_on frame_room
room = refl

within : frame_samples small samples ≡ Ok tt
unfolding both down or_else found only_if first sooner found_if over_top over_row over_box top_of over_plane up_to_eight halved luma_plane chroma_plane chroma_on frame_samples
within = refl

pub frame_accepts : (frame_of small lists (lent samples cells)).answer ≡ Ok tt
unfolding or_else frame_late
frame_accepts = answer_is small lists (lent samples cells) ∙ rw (early, built, room, within)
