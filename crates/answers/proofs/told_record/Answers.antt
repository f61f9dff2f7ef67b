-- `told_record` is the bytes of a record with both counts, or a refusal with none. Assumes nothing.
use Rattle.answers.proofs.Numbers.{bytes_few, bytes_told, bytes_refused}
use Rattle.answers.proofs.told_record.Goals as goal

pub count-requires : goal.count-requires
count-requires c = bytes_few c.requires c.in-Ok.is

pub returns-in-Ok : goal.returns-in-Ok
returns-in-Ok c = bytes_told _ _ c.requires c.in-Ok.is c.put_counts.ensures c.count.ensures

pub returns-in-Err : goal.returns-in-Err
returns-in-Err c = bytes_refused _ c.in-Err.is c.told_refusal.ensures
