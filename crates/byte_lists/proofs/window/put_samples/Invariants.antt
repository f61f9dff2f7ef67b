-- `put_samples` puts the window's samples back, one after the other. Assumes nothing.
use mathlib.Core.Path.{◌≡◌}
use mathlib.Core.List.{◌++◌}
use Prim.Native.Nat.{◌-◌, ◌*◌, ◌≤◌}
use lib.ListN.{length, get_or, drop}
use Rattle.laws.specs.Loops.{each}
use Rattle.low_first.specs.Bytes.{low_first}
use Rattle.byte_lists.proofs.window.put_samples.Given as goal

abbrev pub invariant-loop-k : goal.invariant-loop-k
invariant-loop-k l = (l.k ≤ 72) × (l.bytes ≡ each l.k (λ i. low_first 2 (get_or l.l i 0)) ++ drop (2 * l.k) l.initial.bytes) × (length l.bytes ≡ 144) × (length l.initial.bytes ≡ 144)

abbrev pub decreases-loop-k : goal.decreases-loop-k
decreases-loop-k l = 72 - l.k
