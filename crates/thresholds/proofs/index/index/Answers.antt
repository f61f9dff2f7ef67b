-- `index` is qindex + 8·delta in counts. Assumes nothing.
use mir.Facts.{to_z-of_z}
use native.Mathlib.Omega.{arith}
use borrow.Author.Rules.{rules}
use Rattle.thresholds.proofs.Indices.{small, index_is}
use Rattle.thresholds.proofs.index.index.Goals as goal

pub overflow_mul-result : goal.overflow_mul-result
overflow_mul-result c = let s = small _ c.requires in let p = rw (to_z-of_z c.ranges.delta) at c.from-d.ensures in record { fits = omega arith }

pub overflow_add-result : goal.overflow_add-result
overflow_add-result c = let s = small _ c.requires in let p = rw (to_z-of_z c.ranges.delta) at c.from-d.ensures in record { fits = omega arith }

pub overflow_mul-result-2 : goal.overflow_mul-result-2
overflow_mul-result-2 c = let s = small _ c.requires in let p = rw (to_z-of_z c.ranges.delta) at c.from-d.ensures in record { fits = omega arith }

pub returns : goal.returns
returns c =
    let p = rw (to_z-of_z c.ranges.delta) at c.from-d.ensures in
    index_is _ _ _ c.requires (omega arith) (omega arith) (omega arith)
