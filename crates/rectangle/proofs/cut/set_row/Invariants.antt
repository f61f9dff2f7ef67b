-- `set_row`'s loop: the places passed so far are 1. Assumes nothing.
use mathlib.Core.Path.{◌≡◌}
use Prim.Native.Nat.{◌+◌, ◌-◌, ◌≤◌}
use lib.ListN.{length, set}
use Rattle.laws.specs.Loops.{turns}
use Rattle.rectangle.proofs.cut.set_row.Given as goal

abbrev pub invariant-loop-j : goal.invariant-loop-j
invariant-loop-j l = (l.j ≤ l.n) × (l.keep ≡ turns l.j (λ k m. set m (l.at + k) 1) l.initial.keep) × (length l.keep ≡ length l.initial.keep)

abbrev pub decreases-loop-j : goal.decreases-loop-j
decreases-loop-j l = l.n - l.j
