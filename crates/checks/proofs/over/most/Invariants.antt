-- `most` is the row's largest: the invariant says so of the samples passed. Assumes nothing.
use Prim.Native.Nat.{◌-◌, ◌≤◌}
use mathlib.Core.Path.{◌≡◌}
use Rattle.laws.specs.Largest.{largest}
use Rattle.checks.proofs.Rows.{rows as needs}
use Rattle.checks.proofs.over.most.Given as goal

abbrev pub invariant-loop-x : goal.invariant-loop-x
invariant-loop-x l = (l.x ≤ l.count) × (l.m ≡ largest l.plane l.start l.x)

abbrev pub decreases-loop-x : goal.decreases-loop-x
decreases-loop-x l = l.count - l.x
