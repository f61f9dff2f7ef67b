-- `frame_given` leaves at the first check that refuses: steps, deltas and caps, tile starts, leaves. Assumes nothing.
use mathlib.Core.Path.{◌∙◌}
use Rattle.rules.specs.Frame.{frame_given, frame_leaves}
use Rattle.checks.proofs.Checks.{handed, stop, go_on}
use Rattle.frame_checks.proofs.early.frame_given.Goals as goal

pub returns-in_err-steps_check : goal.returns-in_err-steps_check
unfolding frame_given
returns-in_err-steps_check c = λ q. handed _ c.from_residual.ensures ∙ stop _ _ c.in_err-steps_check.ensures

pub returns-in_err-frame_settings : goal.returns-in_err-frame_settings
unfolding frame_given
returns-in_err-frame_settings c = λ q. handed _ c.from_residual-in_err-frame_settings.ensures ∙ go_on _ _ _ c.in_ok-steps_check.ensures (stop _ _ c.in_err-frame_settings.ensures)

pub returns-in_err-frame_tiles : goal.returns-in_err-frame_tiles
unfolding frame_given
returns-in_err-frame_tiles c =
    λ q. handed _ c.from_residual-in_err-frame_tiles.ensures ∙ go_on _ _ _ c.in_ok-steps_check.ensures
    (go_on _ _ _ c.in_ok-frame_settings.ensures (stop _ _ c.in_err-frame_tiles.ensures))

pub returns : goal.returns
unfolding frame_given frame_leaves
returns c =
    λ q. go_on _ _ _ c.in_ok-steps_check.ensures (go_on _ _ _ c.in_ok-frame_settings.ensures (go_on _ _ _ c.in_ok-frame_tiles.ensures c.frame_leaves.ensures))
