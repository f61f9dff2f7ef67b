-- `ramps::slope` meets its contract.
-- Assumes nothing.
use Rattle.width.proofs.Differences.{slope_is, below}
use native.Mathlib.Omega.{arith}
use Rattle.width.proofs.ramps.slope.Goals as goal

pub returns : goal.returns
returns c = let a = c.args in let e = slope_is a.k a.a0 a.a1 a.ak in (omega arith, omega (arith, below a.k a.a1 8 65535 c.requires (omega arith), below a.k a.a0 8 65535 c.requires (omega arith)))
