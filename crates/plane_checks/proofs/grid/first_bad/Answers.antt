-- `first_bad` meets its contract: the invariant says that no cell passed is bad. Assumes nothing.
use mathlib.Core.Path.{◌≡◌}
use mathlib.Core.List.{[]}
use Prim.Native.Nat.{◌≤◌, ◌-◌}
use Rattle.std.specs.declared.option.Option.TheVariants.{None}
use Rattle.rules.specs.Plane.{keeping, cell_good}
use Rattle.rules.specs.Refusals.{first, found_unless}
use Rattle.plane_checks.specs.Fit.{bad_of}
use Rattle.plane_checks.proofs.Marks.{finds as needs}
use Rattle.plane_checks.proofs.grid.first_bad.Goals as goal

pub loop-k-init : goal.loop-k-init
loop-k-init c = search needs

pub returns-then-not-cell_good : goal.returns-then-not-cell_good
unfolding bad_of
returns-then-not-cell_good c = search needs

pub loop-k-preserved : goal.loop-k-preserved
loop-k-preserved c = search needs

pub returns : goal.returns
unfolding bad_of
returns c = search needs
