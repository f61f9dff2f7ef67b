-- `samples` are all 72 of the window. Assumes nothing.
use Prim.Native.Nat.{◌-◌, ◌*◌, ◌≤◌}
use mathlib.Core.Path.{◌≡◌}
use lib.ListN.{length}
use Rattle.laws.specs.Loops.{filled}
use Rattle.low_first.specs.Bytes.{number_in}
use Rattle.byte_lists.proofs.window.samples.Given as goal

abbrev pub invariant-loop-k : goal.invariant-loop-k
invariant-loop-k l = (l.k ≤ 72) × (l.l ≡ filled l.initial.l (λ i. number_in 2 l.bytes (2 * i)) l.k) × (length l.l ≡ 72) × (length l.initial.l ≡ 72)

abbrev pub decreases-loop-k : goal.decreases-loop-k
decreases-loop-k l = 72 - l.k
