-- `put_row` fills a part of the plane where the row fits. Assumes nothing.
use Rattle.laws.specs.Choose.{is_le, not_le}
use Rattle.pictures.proofs.Parts.{row_put_holds, row_too_long}
use Rattle.pictures.proofs.planes.put_row.Goals as goal

pub returns-then-plane-end : goal.returns-then-plane-end
returns-then-plane-end c = record { value = not_le _ _ c.if-plane-end.true; plane_after = row_too_long _ _ _ _ _ c.if-plane-end.true }

pub returns : goal.returns
returns c = record { value = is_le _ _ c.if-plane-end.false; plane_after = row_put_holds _ _ _ _ _ c.if-plane-end.false c.to_samples.ensures }
