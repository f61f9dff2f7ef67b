-- What a frame's filter and its entry state: the answer with the counts, a refusal's of none, and the lent lists afterwards.
-- Assumes nothing.
use Rattle.std.specs.Prelude.{◌≡◌, List, ℕ}
use Rattle.rules.specs.declared.settings.Frame.{Frame}
use Rattle.rules.specs.declared.refusals.Refusal.{Refusal}
use Rattle.std.specs.declared.result.Result.{Result}
use Rattle.rules.specs.declared.counts.Counts.{Counts}
use Rattle.rules.specs.Refusals.{answered, changed_in, stored_in}
use Rattle.rules.specs.Refusals.{settle}
use Rattle.rules.specs.Frame.{Planes, Grids, Given, Lent, frame_late, run_frame, run_frame_stored, run_frame_changed, frame_of, frame_stored, frame_changed}

-- of planes p whose grids g are built: the answer a and the planes q
pub record Finished (f : Frame) (steps : List ℕ) (g : Grids) (p : Planes) (a : Result Counts Refusal) (q : Planes) : Type 0 where
  pub answer : answered a ≡ frame_late f g p
  pub planes : q ≡ settle (frame_late f g p) p (run_frame f steps g p)
  pub stored : stored_in a ≡ settle (frame_late f g p) 0 (run_frame_stored f steps g p)
  pub changed : changed_in a ≡ settle (frame_late f g p) 0 (run_frame_changed f steps g p)

-- all that the entry states of lists l: the answer a and the lists m
pub record Stated (f : Frame) (n : Given) (l : Lent) (a : Result Counts Refusal) (m : Lent) : Type 0 where
  pub answer : answered a ≡ (frame_of f n l).answer
  pub lists : m ≡ (frame_of f n l).lists
  pub stored : stored_in a ≡ frame_stored f n l
  pub changed : changed_in a ≡ frame_changed f n l
