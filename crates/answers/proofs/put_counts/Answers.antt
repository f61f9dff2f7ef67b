-- `put_counts` stores both counts, one after the other. Assumes nothing.
use Rattle.answers.proofs.Numbers.{tallied_by}
use borrow.Author.Rules.{rules}
use Rattle.answers.proofs.put_counts.Goals as goal

pub returns : goal.returns
returns c = tallied_by _ _ _ c.put.ensures c.put-2.ensures
