-- `highest` is the largest: the invariant says so of the numbers passed. Assumes nothing.
use Prim.Native.Nat.{◌≤◌, ◌-◌}
use mathlib.Core.Path.{◌≡◌}
use Rattle.laws.specs.Largest.{largest}
use Rattle.checks.proofs.Bytes.{bytes as needs}
use Rattle.checks.proofs.marks.highest.Goals as goal

pub loop-k-init : goal.loop-k-init
loop-k-init c = search needs

pub loop-k-preserved : goal.loop-k-preserved
loop-k-preserved c = search needs
