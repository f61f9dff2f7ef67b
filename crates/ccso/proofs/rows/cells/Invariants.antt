-- `cells`' loop: each column so far has its store. Assumes nothing.
use mathlib.Core.Path.{◌≡◌}
use Prim.Native.Nat.{◌+◌, ◌-◌, ◌≤◌}
use lib.ListN.{length}
use Rattle.laws.specs.Loops.{turns}
use Rattle.ccso.specs.Lists.{moved_cell}
use Rattle.ccso.proofs.rows.cells.Given as goal

abbrev pub invariant-loop-j : goal.invariant-loop-j
invariant-loop-j l = (l.j ≤ l.count) × (l.target ≡ turns l.j (λ i. moved_cell l.s l.luma l.offsets l.r.y (l.start + i)) l.initial.target) × (length l.target ≡ length l.initial.target)

abbrev pub decreases-loop-j : goal.decreases-loop-j
decreases-loop-j l = l.count - l.j
