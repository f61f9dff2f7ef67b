-- `spent_by` meets its contract. Assumes nothing.
use borrow.Author.Rules.{rules}
use Rattle.rows.proofs.Calls.{spends, stays}
use Rattle.rows.proofs.entry.spent_by.Goals as goal

pub returns-then-number-eq8 : goal.returns-then-number-eq8
returns-then-number-eq8 c = spends _ _ c.number.ensures c.if-number-eq8.true

pub returns : goal.returns
returns c = stays _ _ c.number.ensures c.if-number-eq8.false
