-- `told_count` is the count, or minus a refusal's number with its place in the list. Assumes nothing.
use Rattle.answers.proofs.Numbers.{count_told, count_refused}
use borrow.Author.Rules.{rules}
use Rattle.answers.proofs.told_count.Goals as goal

pub returns-in-Ok : goal.returns-in-Ok
returns-in-Ok c = count_told _ c.in-Ok.is (search rules) c.count.ensures

pub returns-in-Err : goal.returns-in-Err
returns-in-Err c = count_refused _ _ c.in-Err.is c.place.ensures c.put.ensures c.minus.ensures
