-- `steady_from` is where both indices are at their highest. Assumes nothing.
use mir.Facts.{to_z-of_z}
use borrow.Author.Rules.{rules}
use Rattle.thresholds.proofs.Packed.{steady_is}
use Rattle.thresholds.proofs.by_qindex.steady_from.Goals as goal

pub returns : goal.returns
returns c =
    let q = rw (to_z-of_z c.ranges.deltaq) at c.from-q.ensures in
    let side = rw (to_z-of_z c.ranges.deltaside) at c.from-side.ensures in
    steady_is _ _ _ q.1 side.1 c.max-down.ensures c.offset.ensures
