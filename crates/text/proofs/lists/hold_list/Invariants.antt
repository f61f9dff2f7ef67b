-- `hold_list` holds one entry after the other. Assumes nothing.
use Rattle.text.proofs.Holding.{HeldTo}
use Rattle.text.proofs.lists.hold_list.Given as goal

abbrev pub invariant-loop-v : goal.invariant-loop-v
invariant-loop-v g l = HeldTo g.T.Entry.number_of (g.T.Entry.entry_of 0) g.T.Entry.MOST l.text l.fn.c l.list l.v-index l.h
