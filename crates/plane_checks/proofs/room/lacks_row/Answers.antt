-- `lacks_row` meets its contract: the invariant says that no cell passed has an edge that lacks room. Assumes nothing.
use mathlib.Core.Path.{◌≡◌}
use mathlib.Core.List.{[]}
use Prim.Native.Nat.{◌≤◌, ◌-◌}
use Rattle.std.specs.declared.option.Option.TheVariants.{None}
use Rattle.rules.specs.Refusals.{first}
use Rattle.cell_edges.specs.Cells.{one_way}
use Rattle.rules.specs.Plane.{lacks_room, lacks_row}
use Rattle.checks.proofs.First.{firsts as needs}
use Rattle.plane_checks.proofs.room.lacks_row.Goals as goal

pub loop-c-init : goal.loop-c-init
loop-c-init c = search needs

pub returns-in-Some : goal.returns-in-Some
unfolding lacks_row
returns-in-Some c = search needs

pub loop-c-preserved : goal.loop-c-preserved
loop-c-preserved c = search needs

pub returns : goal.returns
unfolding lacks_row
returns c = search needs
