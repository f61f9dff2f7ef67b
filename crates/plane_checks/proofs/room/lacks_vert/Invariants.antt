-- `lacks_vert` meets its contract: the invariant says that no row passed has an edge that lacks room. Assumes nothing.
use mathlib.Core.Path.{◌≡◌}
use mathlib.Core.List.{[]}
use Prim.Native.Nat.{◌≤◌, ◌-◌}
use Rattle.std.specs.declared.option.Option.TheVariants.{None}
use Rattle.rules.specs.Refusals.{first}
use Rattle.cell_edges.specs.Cells.{one_way}
use Rattle.rules.specs.Plane.{lacks_row, lacks_dir}
use Rattle.checks.proofs.First.{firsts as needs}
use Rattle.plane_checks.proofs.room.lacks_vert.Given as goal

abbrev pub invariant-loop-r : goal.invariant-loop-r
invariant-loop-r l = (l.r ≤ l.rows) × (first l.r (λ k. lacks_row l.s (one_way l.vedge l.sqw [] l.tiles) 0 k) ≡ None)

abbrev pub decreases-loop-r : goal.decreases-loop-r
decreases-loop-r l = l.rows - l.r
