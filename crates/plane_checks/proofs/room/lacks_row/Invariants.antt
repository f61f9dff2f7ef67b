-- `lacks_row` meets its contract: the invariant says that no cell passed has an edge that lacks room. Assumes nothing.
use mathlib.Core.Path.{◌≡◌}
use mathlib.Core.List.{[]}
use Prim.Native.Nat.{◌≤◌, ◌-◌}
use Rattle.std.specs.declared.option.Option.TheVariants.{None}
use Rattle.rules.specs.Refusals.{first}
use Rattle.cell_edges.specs.Cells.{one_way}
use Rattle.rules.specs.Plane.{lacks_room, lacks_row}
use Rattle.checks.proofs.First.{firsts as needs}
use Rattle.plane_checks.proofs.room.lacks_row.Given as goal

abbrev pub invariant-loop-c : goal.invariant-loop-c
invariant-loop-c l = (l.c ≤ l.cols) × (first l.c (λ k. lacks_room l.s (one_way l.hedge l.sqh [] []) 1 l.r k) ≡ None)

abbrev pub decreases-loop-c : goal.decreases-loop-c
decreases-loop-c l = l.cols - l.c
