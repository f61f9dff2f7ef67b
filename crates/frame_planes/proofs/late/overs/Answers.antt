-- `overs` is luma's refusal 8, else U's, else V's. Assumes nothing.
use mathlib.Core.Path.{sym, ◌∙◌}
use Rattle.checks.proofs.Checks.{stop, go_on, handed}
use Rattle.frame_planes.proofs.Parts.{samples_is}
use Rattle.frame_planes.proofs.late.overs.Goals as goal

pub returns-in_err-over : goal.returns-in_err-over
returns-in_err-over c = handed _ c.from_residual.ensures ∙ stop _ _ c.in_err-over.ensures ∙ sym (samples_is _ _)

pub returns-in_err-over-2 : goal.returns-in_err-over-2
returns-in_err-over-2 c = handed _ c.from_residual-in_err-over-2.ensures ∙ go_on _ _ _ c.in_ok-over.ensures (stop _ _ c.in_err-over-2.ensures) ∙ sym (samples_is _ _)

pub returns : goal.returns
returns c = go_on _ _ _ c.in_ok-over.ensures (go_on _ _ _ c.in_ok-over-2.ensures c.over-3.ensures) ∙ sym (samples_is _ _)
