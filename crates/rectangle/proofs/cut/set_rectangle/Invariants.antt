-- `set_rectangle`'s loop: the rows passed so far are set; no column left, nothing is to be set. Assumes nothing.
use mathlib.Core.Path.{◌≡◌}
use Prim.Native.Nat.{◌+◌, ◌-◌, ◌*◌, ◌≤◌}
use lib.ListN.{length}
use Rattle.laws.specs.Loops.{turns}
use Rattle.rectangle.specs.Cut.{row_set}
use Rattle.rectangle.proofs.cut.set_rectangle.Given as goal

abbrev pub invariant-loop-i : goal.invariant-loop-i
invariant-loop-i l = (l.i ≤ l.high) × (l.keep ≡ turns l.i (λ k. row_set ((l.s.row + k) * l.s.cols + l.s.col) l.wide) l.initial.keep) × (length l.keep ≡ length l.initial.keep)

abbrev pub decreases-loop-i : goal.decreases-loop-i
decreases-loop-i l = l.high - l.i
