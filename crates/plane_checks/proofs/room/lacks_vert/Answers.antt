-- `lacks_vert` meets its contract: the invariant says that no row passed has an edge that lacks room. Assumes nothing.
use mathlib.Core.Path.{◌≡◌}
use mathlib.Core.List.{[]}
use Prim.Native.Nat.{◌≤◌, ◌-◌}
use Rattle.std.specs.declared.option.Option.TheVariants.{None}
use Rattle.rules.specs.Refusals.{first}
use Rattle.cell_edges.specs.Cells.{one_way}
use Rattle.rules.specs.Plane.{lacks_row, lacks_dir}
use Rattle.checks.proofs.First.{firsts as needs}
use Rattle.plane_checks.proofs.room.lacks_vert.Goals as goal

pub loop-r-init : goal.loop-r-init
loop-r-init c = search needs

pub returns-in-Some : goal.returns-in-Some
unfolding lacks_dir
returns-in-Some c = search needs

pub loop-r-preserved : goal.loop-r-preserved
loop-r-preserved c = search needs

pub returns : goal.returns
unfolding lacks_dir
returns c = search needs
