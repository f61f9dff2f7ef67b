-- `filter` stops where the late checks refuse, and else runs planes whose edges have room. Assumes nothing.
use mathlib.Core.Path.{refl}
use mathlib.Core.List.{[]}
use Rattle.frame.proofs.Grids.{marked}
use Rattle.frame.proofs.Accepted.{runnable}
use Rattle.frame.proofs.Ways.{luma_room, chroma_room, luma_over, chroma_over, late_stop, late_run}
use Rattle.checks.proofs.Checks.{handed}
use Rattle.frame.proofs.filter.filter.Goals as goal

pub late-requires : goal.late-requires
late-requires c =
    let p = c.requires in
    record { sampled = (p.stepped.1.sampled, λ on. ((p.stepped_2 on).1.sampled, (p.stepped_2 on).2.sampled)); marked = (marked p.stepped.1, λ on. marked (p.stepped_2 on).1) }

pub returns-in_err-late : goal.returns-in_err-late
returns-in_err-late c = rw (handed _ c.from_residual.ensures) (late_stop _ _ _ _ _ (c.in_err-late.ensures _ _ _ _) refl)

pub run_planes-requires : goal.run_planes-requires
run_planes-requires c =
    let p = c.requires in
    let is = c.in_ok-late.ensures in
    let over = chroma_over _ _ _ _ (is [] [] [] []) refl in
    record {
      runnable = runnable p.stepped.1 p.stepped.0 (luma_room _ _ _ _ (is _ [] _ []) refl) (luma_over _ _ _ _ (is [] [] [] []) refl);
      runnable_2 = λ on. (
        runnable (p.stepped_2 on).1 (p.stepped_2 on).0 (chroma_room _ _ _ _ (is [] _ [] _) refl on) (over on).0,
        runnable (p.stepped_2 on).2 (p.stepped_2 on).0 (chroma_room _ _ _ _ (is [] _ [] _) refl on) (over on).1,
      );
    }

pub returns : goal.returns
returns c = late_run _ _ _ _ _ (c.in_ok-late.ensures _ _ _ _) refl c.run_planes.ensures
