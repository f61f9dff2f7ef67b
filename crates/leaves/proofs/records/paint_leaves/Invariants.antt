-- The leaves passed so far are painted.
use Rattle.rules.specs.TuGrid.{marks}
use Rattle.leaves.proofs.Flat.{Painted}
use Rattle.leaves.proofs.records.paint_leaves.Given as goal

abbrev pub invariant-loop-leaf : goal.invariant-loop-leaf
invariant-loop-leaf l = Painted l.s l.skip l.ls (marks l.fn.vedge l.fn.hedge l.fn.sqw l.fn.sqh) l.leaf-index (marks l.vedge l.hedge l.sqw l.sqh)
