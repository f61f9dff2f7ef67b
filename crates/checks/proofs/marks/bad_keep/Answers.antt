-- `bad_keep` finds the first mark over 1: the invariant says that none of those passed is. Assumes nothing.
use mathlib.Core.Path.{◌≡◌}
use Prim.Native.Nat.{◌-◌, ◌≤◌}
use Rattle.std.specs.declared.option.Option.TheVariants.{None}
use Rattle.rules.specs.Refusals.{first, over_top}
use Rattle.rules.specs.Plane.{bad_keep}
use Rattle.checks.proofs.Rows.{rows as needs}
use Rattle.checks.proofs.marks.bad_keep.Goals as goal

pub loop-k-init : goal.loop-k-init
loop-k-init c = search needs

pub returns-then-m-gt1 : goal.returns-then-m-gt1
unfolding bad_keep
returns-then-m-gt1 c = search needs

pub loop-k-preserved : goal.loop-k-preserved
loop-k-preserved c = search needs

pub returns : goal.returns
unfolding bad_keep
returns c = search needs
