-- `thresholds_by_qindex` starts from a table of the last number alone, and fills it place by place up to where all are alike. Assumes nothing.
use mathlib.Core.Path.{◌≡◌}
use Prim.Native.Nat.{◌-◌, ◌≤◌}
use native.Mathlib.Omega.{arith}
use borrow.Author.Rules.{rules}
use lib.ListN.{length}
use Rattle.laws.specs.Loops.{filled, filled_none, filled_more}
use Rattle.thresholds.specs.ByQindex.{packed_of, last_qindex}
use Rattle.thresholds.proofs.Packed.{steady_most, by_qindex}
use Rattle.thresholds.proofs.by_qindex.thresholds_by_qindex.Given as goal

abbrev pub invariant-loop-k : goal.invariant-loop-k
invariant-loop-k l = (l.k ≤ l.n) × (l.n ≤ last_qindex) × (length l.initial.table ≡ 1416)
    × (l.table ≡ filled l.initial.table (packed_of l.depth.bits l.steps l.deltaq l.deltaside) l.k)

abbrev pub decreases-loop-k : goal.decreases-loop-k
decreases-loop-k l = l.n - l.k
