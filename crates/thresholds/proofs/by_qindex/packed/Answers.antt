-- `packed` is both thresholds of a block. Assumes nothing.
-- neither reaches 65536
use mir.Facts.{to_z-of_z}
use native.Mathlib.Omega.{arith}
use Rattle.thresholds.proofs.Quants.{q_small}
use Rattle.thresholds.proofs.Sides.{side_small}
use Rattle.thresholds.proofs.Packed.{packed_is}
use borrow.Author.Rules.{rules}
use Rattle.thresholds.proofs.by_qindex.packed.Goals as goal

pub overflow_mul-result : goal.overflow_mul-result
overflow_mul-result c = let pre = c.requires in let q = q_small _ _ _ pre.1 pre.4 c.df_quant_from_qindex-q.ensures in record { fits = omega arith }

pub overflow_add-result : goal.overflow_add-result
overflow_add-result c = let pre = c.requires in let q = q_small _ _ _ pre.1 pre.4 c.df_quant_from_qindex-q.ensures in let s = side_small _ _ pre.1 c.side_by-side.ensures in record { fits = omega arith }

pub returns : goal.returns
returns c =
    packed_is
    _
    _
    _
    _
    _
    (to_z-of_z c.ranges.deltaq)
    (to_z-of_z c.ranges.deltaside)
    c.index.ensures
    c.index-2.ensures
    c.df_quant_from_qindex-q.ensures
    c.side_by-side.ensures
