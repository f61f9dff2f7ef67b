-- `samples` goes row by row: the invariant says that the rows passed have no sample over top. Assumes nothing.
use mathlib.Core.Path.{◌≡◌}
use Prim.Native.Nat.{◌+◌, ◌*◌, ◌-◌, ◌≤◌}
use Rattle.std.specs.declared.option.Option.TheVariants.{None}
use Rattle.rules.specs.Refusals.{first, over_row, over_box}
use Rattle.checks.proofs.Rows.{rows as needs}
use Rattle.checks.proofs.over.samples.Goals as goal

pub loop-y-init : goal.loop-y-init
loop-y-init c = search needs

pub returns-in-Some : goal.returns-in-Some
unfolding over_box
returns-in-Some c = search needs

pub loop-y-preserved : goal.loop-y-preserved
loop-y-preserved c = search needs

pub returns : goal.returns
unfolding over_box
returns c = search needs
