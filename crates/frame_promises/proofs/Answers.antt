-- A frame gives each number exactly when document 01's test for it fails and those before it hold.
-- Assumes nothing.
use mathlib.Core.Path.{◌≡◌, refl, ◌∙◌}
use mathlib.Core.List.{List}
use Rattle.rules.specs.declared.settings.Frame.{Frame}
use Rattle.rules.specs.Refusals.{Answer}
use Rattle.std.specs.declared.result.Result.TheVariants.{Ok, Err}
use Rattle.std.specs.declared.result.Result.{Result}
use Rattle.rules.specs.declared.counts.Counts.{Counts}
use Rattle.rules.specs.declared.refusals.Refusal.{Refusal}
use Rattle.rules.specs.Refusals.{answered}
use Rattle.rules.specs.Refusals.{or_else}
use Rattle.rules.specs.Thresholds.{steps_check}
use Rattle.rules.specs.Plane.{tiles_check}
use Rattle.rules.specs.Frame.{Given, Lent, Done, lengths_of, built_grids, frame_sizes, frame_lengths, frame_shape, frame_settings, frame_tiles, frame_leaves, frame_given, frame_keep, frame_early, frame_room, frame_samples, frame_late, frame_built, or_done, frame_of}
use Rattle.checks.specs.Exactly.{Exactly}
use Rattle.checks.proofs.Exactly.{exactly, else_joined}
use Rattle.frame.specs.Stated.{Stated}
use Rattle.frame_promises.specs.Exactly.{frame_tests}

-- the early checks of what a frame lends
abbrev pub early_of : Frame → Given → Lent → Answer
early_of f n l = frame_early f (lengths_of n l) l.grids.luma.tiles l.grids.chroma.tiles l.grids.luma.keep l.grids.chroma.keep n

-- the early checks, then the late ones
pub answer_by : (a : Answer) (l : Lent) (d : Done) → (or_done a l d).answer ≡ or_else a d.answer
unfolding or_done or_else
answer_by (Ok tt) l d = refl
answer_by (Err r) l d = refl

pub answer_is : (f : Frame) (n : Given) (l : Lent) → (frame_of f n l).answer ≡ or_else (early_of f n l) (frame_late f (built_grids f n l.grids) l.planes)
unfolding frame_of frame_built
answer_is f n l = answer_by (early_of f n l) l _

-- in one row, both checks of 5 together
in_one : (a1 a2 a3 a4 a5 b5 a9 a6 a7 a8 : Answer) → or_else (or_else (or_else a1 (or_else a2 a3)) (or_else (or_else a4 (or_else a5 (or_else b5 a9))) a6)) (or_else a7 a8) ≡ or_else a1 (or_else a2 (or_else a3 (or_else a4 (or_else (or_else a5 b5) (or_else a9 (or_else a6 (or_else a7 a8)))))))
in_one a1 a2 a3 a4 a5 b5 a9 a6 a7 a8 = simp else_joined

-- every result that the entry's statement allows
pub frame_exactly : (f : Frame) (n : Given) (l : Lent) {a : Result Counts Refusal} {m : Lent} → Stated f n l a m → Exactly (answered a) (frame_tests f n l)
unfolding frame_early frame_shape frame_sizes frame_lengths frame_given frame_settings frame_tiles tiles_check frame_leaves frame_keep steps_check frame_late frame_room frame_samples
frame_exactly f n l e = exactly (frame_tests f n l) refl (e.answer ∙ answer_is f n l ∙ in_one _ _ _ _ _ _ _ _ _ _)
