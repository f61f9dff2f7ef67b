-- `late` is rules' frame_late: 7 of both grids, then 8 of the three planes. Assumes nothing.
use mathlib.Core.Path.{sym, ◌∙◌}
use Rattle.checks.proofs.Checks.{stop, go_on, handed}
use Rattle.frame_planes.proofs.Parts.{late_is}
use Rattle.frame_planes.proofs.late.late.Goals as goal

pub returns-in_err-room : goal.returns-in_err-room
returns-in_err-room c = λ q d ks es. handed _ c.from_residual.ensures ∙ stop _ _ (c.in_err-room.ensures q ks) ∙ sym (late_is _ _ _ _)

pub returns-in_err-room-2 : goal.returns-in_err-room-2
returns-in_err-room-2 c =
    λ q d ks es. handed _ c.from_residual-in_err-room-2.ensures ∙ go_on _ _ _ (c.in_ok-room.ensures q ks) (stop _ _ (c.in_err-room-2.ensures d es)) ∙ sym (late_is _ _ _ _)

pub returns : goal.returns
returns c = λ q d ks es. go_on _ _ _ (c.in_ok-room.ensures q ks) (go_on _ _ _ (c.in_ok-room-2.ensures d es) c.overs.ensures) ∙ sym (late_is _ _ _ _)
