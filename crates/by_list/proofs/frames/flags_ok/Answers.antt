-- `flags_ok` tests both flags. Assumes nothing.
use Rattle.by_list.proofs.Lists.{no_flag, second_flag}
use borrow.Author.Rules.{rules}
use Rattle.by_list.proofs.frames.flags_ok.Goals as goal

pub returns-then-count-gt1 : goal.returns-then-count-gt1
returns-then-count-gt1 c = no_flag _ c.count.ensures c.if-count-gt1.true

pub returns : goal.returns
returns c = second_flag _ c.count.ensures c.if-count-gt1.false c.count-2.ensures
