-- `record_check` meets its contract. Assumes nothing.
use mathlib.Core.Path.{refl, ◌∙◌}
use borrow.Author.Rules.{rules}
use Rattle.checks.proofs.Checks.{handed}
use Rattle.recorded.proofs.Recording.{plane_refused, room_refused, room_given, marks_by}
use Rattle.recorded.proofs.entry.record_check.Goals as goal

pub returns-in_err-plane_check : goal.returns-in_err-plane_check
returns-in_err-plane_check c = handed _ c.from_residual.ensures ∙ plane_refused _ _ _ _ _ c.in_err-plane_check.ensures refl

pub edge_count-requires : goal.edge_count-requires
edge_count-requires c = marks_by _ _ _ _ _ _ _ _ _ _ c.in_ok-plane_check.ensures refl

pub returns-then-room-edge_count : goal.returns-then-room-edge_count
returns-then-room-edge_count c = room_refused _ _ _ _ _ c.in_ok-plane_check.ensures refl (c.edge_count.ensures.0 _ _ _ _ _) (search rules)

pub returns : goal.returns
returns c = room_given _ _ _ _ _ c.in_ok-plane_check.ensures refl (c.edge_count.ensures.0 _ _ _ _ _) (search rules)
