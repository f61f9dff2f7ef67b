-- `told_counts` is 0 with both counts, or a refusal with none. Assumes nothing.
use Rattle.answers.proofs.Numbers.{filter_counted, none_counted}
use Rattle.answers.proofs.told_counts.Goals as goal

pub returns-in-Ok : goal.returns-in-Ok
returns-in-Ok c = filter_counted _ _ c.in-Ok.is c.put_counts.ensures

pub returns-in-Err : goal.returns-in-Err
returns-in-Err c = none_counted _ c.in-Err.is c.told_refusal.ensures
