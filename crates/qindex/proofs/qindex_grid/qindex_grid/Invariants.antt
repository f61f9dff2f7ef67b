-- `qindex_grid`'s loop: the rows passed so far are set. Assumes nothing.
use mathlib.Core.Path.{◌≡◌}
use Prim.Native.Nat.{◌-◌, ◌≤◌}
use lib.ListN.{length}
use Rattle.laws.specs.Loops.{turns}
use Rattle.rules.specs.QindexGrid.{q_row}
use Rattle.qindex.proofs.qindex_grid.qindex_grid.Given as goal

abbrev pub invariant-loop-r : goal.invariant-loop-r
invariant-loop-r l = (l.r ≤ l.n) × (l.qindex ≡ turns l.r (λ k. q_row l.s l.sbq k) l.initial.qindex) × (length l.qindex ≡ length l.initial.qindex)

abbrev pub decreases-loop-r : goal.decreases-loop-r
decreases-loop-r l = l.n - l.r
