-- `leaves`' loop: the leaves passed so far are painted in turn. Assumes nothing.
use mathlib.Core.Path.{◌≡◌}
use Prim.Native.Nat.{◌-◌, ◌≤◌}
use lib.ListN.{length}
use Rattle.laws.specs.Loops.{turns}
use Rattle.rules.specs.TuGrid.{marks, paint_of, leaf_of}
use Rattle.grid.proofs.paint.leaves.Given as goal

abbrev pub invariant-loop-k : goal.invariant-loop-k
invariant-loop-k l = (l.k ≤ l.n) × (marks l.vedge l.hedge l.sqw l.sqh ≡ turns l.k (λ j. paint_of l.s (leaf_of l.s l.skip l.ls j)) (marks l.initial.vedge l.initial.hedge l.initial.sqw l.initial.sqh)) × (length l.vedge ≡ length l.initial.vedge) × (length l.hedge ≡ length l.initial.hedge) × (length l.sqw ≡ length l.initial.sqw) × (length l.sqh ≡ length l.initial.sqh)

abbrev pub decreases-loop-k : goal.decreases-loop-k
decreases-loop-k l = l.n - l.k
