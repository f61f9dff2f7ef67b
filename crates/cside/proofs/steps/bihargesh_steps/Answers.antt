-- `bihargesh_steps` refuses a list that is too short, or puts the table. Assumes nothing.
use Rattle.cside.proofs.Table.{too_short, taken}
use Rattle.cside.proofs.steps.bihargesh_steps.Goals as goal

pub returns-then-steps-lt352 : goal.returns-then-steps-lt352
returns-then-steps-lt352 c = too_short _ c.minus.ensures c.if-steps-lt352.true

pub returns : goal.returns
returns c = taken _ c.if-steps-lt352.false c.put_steps.ensures
