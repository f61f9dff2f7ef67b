-- `read_list` puts one entry after the other to the front of the list. Assumes nothing.
use Rattle.text.proofs.Filled.{SoFar}
use Rattle.text.proofs.lists.read_list.Given as goal

abbrev pub invariant-loop-i : goal.invariant-loop-i
invariant-loop-i g l = SoFar g.T.Entry.entry_of g.T.Entry.MOST l.text l.initial.list l.n.rest l.i-end l.i l.list l.rest
