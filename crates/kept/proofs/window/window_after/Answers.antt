-- The samples passed stand in their places. Assumes nothing.
use mathlib.Core.Path.{refl}
use native.Mathlib.Omega.{arith}
use Rattle.laws.specs.Loops.{filled_none, filled_more}
use Rattle.kept.proofs.window.window_after.Goals as goal

pub loop-i-init : goal.loop-i-init
loop-i-init c = (omega arith, filled_none _ _)

pub loop-i-preserved : goal.loop-i-preserved
loop-i-preserved c = (omega arith, filled_more _ _ _ c.loop-i.invariant.1 refl)
