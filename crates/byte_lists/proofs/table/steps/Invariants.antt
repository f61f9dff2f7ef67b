-- `steps` are all 352 of the table. Assumes nothing.
use Prim.Native.Nat.{◌-◌, ◌*◌, ◌≤◌}
use mathlib.Core.Path.{◌≡◌}
use lib.ListN.{length}
use Rattle.laws.specs.Loops.{filled}
use Rattle.low_first.specs.Bytes.{number_in}
use Rattle.byte_lists.proofs.table.steps.Given as goal

abbrev pub invariant-loop-k : goal.invariant-loop-k
invariant-loop-k l = (l.k ≤ 352) × (l.t ≡ filled l.initial.t (λ i. number_in 4 l.bytes (4 * i)) l.k) × (length l.t ≡ 352) × (length l.initial.t ≡ 352)

abbrev pub decreases-loop-k : goal.decreases-loop-k
decreases-loop-k l = 352 - l.k
