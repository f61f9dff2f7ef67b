-- `unit` is 2^(13-depth). Assumes nothing.
use native.Mathlib.Omega.{arith}
use Rattle.thresholds.proofs.Sides.{units}
use borrow.Author.Rules.{rules}
use Rattle.thresholds.proofs.side.unit.Goals as goal

pub overflow_shl-result : goal.overflow_shl-result
overflow_shl-result c = let u = units _ c.requires in omega arith

pub returns : goal.returns
returns c = rw c.shift.ensures (units _ c.requires).shifted
