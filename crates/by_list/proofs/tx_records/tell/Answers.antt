-- `tell` is what C is told of an answer, after the length of the settings. Assumes nothing.
use Rattle.answers.proofs.Numbers.{told_by}
use Rattle.by_list.proofs.Records.{too_few, enough}
use borrow.Author.Rules.{rules}
use Rattle.by_list.proofs.tx_records.tell.Goals as goal

pub returns-then-n-lt6 : goal.returns-then-n-lt6
returns-then-n-lt6 c = told_by (too_few _ _ _ c.if-n-lt6.true) c.told.ensures

pub returns : goal.returns
returns c = told_by (enough _ _ _ c.if-n-lt6.false) c.told-2.ensures
