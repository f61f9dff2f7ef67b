-- `highest` is the largest: the invariant says so of the numbers passed. Assumes nothing.
use Prim.Native.Nat.{◌≤◌, ◌-◌}
use mathlib.Core.Path.{◌≡◌}
use Rattle.laws.specs.Largest.{largest}
use Rattle.checks.proofs.Bytes.{bytes as needs}
use Rattle.checks.proofs.marks.highest.Given as goal

abbrev pub invariant-loop-k : goal.invariant-loop-k
invariant-loop-k l = (l.k ≤ l.count) × (l.m ≡ largest l.list 0 l.k)

abbrev pub decreases-loop-k : goal.decreases-loop-k
decreases-loop-k l = l.count - l.k
