-- `exact` finds the first sample over top: the invariant says that none of those passed is. Assumes nothing.
use mathlib.Core.Path.{◌≡◌}
use Prim.Native.Nat.{◌+◌, ◌-◌, ◌≤◌}
use Rattle.std.specs.declared.option.Option.TheVariants.{None}
use Rattle.rules.specs.Refusals.{first, over_top, over_row}
use Rattle.checks.proofs.Rows.{rows as needs}
use Rattle.checks.proofs.over.exact.Goals as goal

pub loop-x-init : goal.loop-x-init
loop-x-init c = search needs

pub returns-then-top-v : goal.returns-then-top-v
unfolding over_row
returns-then-top-v c = search needs

pub loop-x-preserved : goal.loop-x-preserved
loop-x-preserved c = search needs

pub returns : goal.returns
unfolding over_row
returns c = search needs
