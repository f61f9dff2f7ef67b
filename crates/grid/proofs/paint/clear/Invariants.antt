-- `clear`'s loop: the entries passed so far are 0. Assumes nothing.
use mathlib.Core.Path.{◌≡◌}
use Prim.Native.Nat.{◌-◌, ◌≤◌}
use lib.ListN.{length, set}
use Rattle.laws.specs.Loops.{turns}
use Rattle.grid.proofs.paint.clear.Given as goal

abbrev pub invariant-loop-i : goal.invariant-loop-i
invariant-loop-i l = (l.i ≤ l.n) × (l.xs ≡ turns l.i (λ k l. set l k 0) l.initial.xs) × (length l.xs ≡ length l.initial.xs)

abbrev pub decreases-loop-i : goal.decreases-loop-i
decreases-loop-i l = l.n - l.i
