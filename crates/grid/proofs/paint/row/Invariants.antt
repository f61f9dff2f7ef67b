-- `row`'s loop: the cells passed so far are painted, and the lists keep their lengths. Assumes nothing.
use mathlib.Core.Path.{◌≡◌}
use Prim.Native.Nat.{◌-◌, ◌≤◌}
use lib.ListN.{length}
use Rattle.laws.specs.Loops.{turns}
use Rattle.rules.specs.TuGrid.{marks, paint_cell}
use Rattle.grid.proofs.paint.row.Given as goal

abbrev pub invariant-loop-dc : goal.invariant-loop-dc
invariant-loop-dc l = (l.dc ≤ l.n) × (marks l.vedge l.hedge l.sqw l.sqh ≡ turns l.dc (λ k. paint_cell l.s l.a l.dr k) (marks l.initial.vedge l.initial.hedge l.initial.sqw l.initial.sqh)) × (length l.vedge ≡ length l.initial.vedge) × (length l.hedge ≡ length l.initial.hedge) × (length l.sqw ≡ length l.initial.sqw) × (length l.sqh ≡ length l.initial.sqh)

abbrev pub decreases-loop-dc : goal.decreases-loop-dc
decreases-loop-dc l = l.n - l.dc
