-- One sample, kept or stored. Assumes nothing.
use Rattle.kept.proofs.Swept.{swept_kept, swept_stored, few_none, few_one}
use Rattle.kept.proofs.kept.put_open.Goals as goal

pub returns-then-at : goal.returns-then-at
returns-then-at c = (swept_kept c.at.ensures c.if-at.true, few_none _ _)

pub returns : goal.returns
returns c = (swept_stored c.at.ensures c.if-at.false, few_one c.requires.1)
