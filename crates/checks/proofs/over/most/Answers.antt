-- `most` is the row's largest: the invariant says so of the samples passed. Assumes nothing.
use Prim.Native.Nat.{◌-◌, ◌≤◌}
use mathlib.Core.Path.{◌≡◌}
use Rattle.laws.specs.Largest.{largest}
use Rattle.checks.proofs.Rows.{rows as needs}
use Rattle.checks.proofs.over.most.Goals as goal

pub loop-x-init : goal.loop-x-init
loop-x-init c = search needs

pub loop-x-preserved : goal.loop-x-preserved
loop-x-preserved c = search needs
