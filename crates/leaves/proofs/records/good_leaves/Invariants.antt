-- The leaves passed so far are good.
use Rattle.leaves.proofs.Flat.{Sound}
use Rattle.leaves.proofs.records.good_leaves.Given as goal

abbrev pub invariant-loop-i : goal.invariant-loop-i
invariant-loop-i l = Sound l.skip l.ls l.i
