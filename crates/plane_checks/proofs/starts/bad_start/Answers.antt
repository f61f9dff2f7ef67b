-- `bad_start` meets its contract: the invariant says that no start passed is bad. Assumes nothing.
use mathlib.Core.Path.{◌≡◌}
use Prim.Native.Nat.{◌≤◌, ◌-◌}
use lib.ListN.{length}
use Rattle.std.specs.declared.option.Option.TheVariants.{None}
use Rattle.rules.specs.Plane.{start_good, bad_start}
use Rattle.rules.specs.Refusals.{first, found_unless}
use Rattle.plane_checks.proofs.Marks.{finds as needs}
use Rattle.plane_checks.proofs.starts.bad_start.Goals as goal

pub loop-k-init : goal.loop-k-init
loop-k-init c = search needs

pub returns-then-not-start_good : goal.returns-then-not-start_good
unfolding bad_start
returns-then-not-start_good c = search needs

pub loop-k-preserved : goal.loop-k-preserved
loop-k-preserved c = search needs

pub returns : goal.returns
unfolding bad_start
returns c = search needs
