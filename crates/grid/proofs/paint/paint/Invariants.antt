-- `paint`'s loop: the rows passed so far are painted, and the lists keep their lengths. Assumes nothing.
use mathlib.Core.Path.{◌≡◌}
use Prim.Native.Nat.{◌-◌, ◌≤◌}
use lib.ListN.{length}
use Rattle.laws.specs.Loops.{turns}
use Rattle.rules.specs.TuGrid.{marks, paint_row}
use Rattle.grid.proofs.paint.paint.Given as goal

abbrev pub invariant-loop-dr : goal.invariant-loop-dr
invariant-loop-dr l = (l.dr ≤ l.n) × (marks l.vedge l.hedge l.sqw l.sqh ≡ turns l.dr (λ k. paint_row l.s l.a k) (marks l.initial.vedge l.initial.hedge l.initial.sqw l.initial.sqh)) × (length l.vedge ≡ length l.initial.vedge) × (length l.hedge ≡ length l.initial.hedge) × (length l.sqw ≡ length l.initial.sqw) × (length l.sqh ≡ length l.initial.sqh)

abbrev pub decreases-loop-dr : goal.decreases-loop-dr
decreases-loop-dr l = l.n - l.dr
