-- `q_row`'s loop: the cells passed so far are set. Assumes nothing.
use mathlib.Core.Path.{◌≡◌}
use Prim.Native.Nat.{◌-◌, ◌≤◌}
use lib.ListN.{length}
use Rattle.laws.specs.Loops.{turns}
use Rattle.rules.specs.QindexGrid.{q_cell}
use Rattle.qindex.proofs.qindex_grid.q_row.Given as goal

abbrev pub invariant-loop-c : goal.invariant-loop-c
invariant-loop-c l = (l.c ≤ l.n) × (l.qindex ≡ turns l.c (λ k. q_cell l.s l.sbq l.r k) l.initial.qindex) × (length l.qindex ≡ length l.initial.qindex)

abbrev pub decreases-loop-c : goal.decreases-loop-c
decreases-loop-c l = l.n - l.c
