-- Refused as it was lent, or the edge filtered.
use mathlib.Core.Path.{refl}
use Rattle.checks.proofs.Checks.{handed}
use Rattle.lone.proofs.Accepted.{depth_passed, plane_passed, lone_refused, lone_accepted}
use Rattle.lone.proofs.lone.filter_lone.Goals as goal

pub top-requires : goal.top-requires
top-requires c = depth_passed _ _ _ c.in_ok-lone_check.ensures refl

pub filter_edge-o-requires : goal.filter_edge-o-requires
filter_edge-o-requires c = plane_passed _ _ _ c.in_ok-lone_check.ensures refl c.edge_of.ensures.0

pub returns-in_err-lone_check : goal.returns-in_err-lone_check
returns-in_err-lone_check c = rw (handed _ c.from_residual.ensures) (lone_refused _ _ _ c.in_err-lone_check.ensures refl)

pub returns : goal.returns
returns c = lone_accepted _ _ _ c.in_ok-lone_check.ensures refl c.edge_of.ensures.0 c.top.ensures c.filter_edge-o.ensures
