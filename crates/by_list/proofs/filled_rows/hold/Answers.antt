-- `hold` puts the held count, and a 1 where the state is spent. Assumes nothing.
use Rattle.by_list.proofs.States.{held_spent, held_unspent}
use borrow.Author.Rules.{rules}
use Rattle.by_list.proofs.filled_rows.hold.Goals as goal

pub returns-then-next : goal.returns-then-next
returns-then-next c = held_spent _ _ c.if-next.true

pub returns-else-next : goal.returns-else-next
returns-else-next c = held_unspent _ _ c.if-next.false
