-- `final_rows` meets its contract. Assumes nothing.
use borrow.Author.Rules.{rules}
use native.Mathlib.Omega.{arith}
use Rattle.laws.specs.Choose.{tests}
use Rattle.rules.specs.Rows.{final_of}
use Rattle.rows.proofs.Final.{final_none}
use Rattle.rows.proofs.counts.final_rows.Goals as goal

pub returns-then-rows-filled : goal.returns-then-rows-filled
unfolding final_of
returns-then-rows-filled c = search tests

pub returns-then-filled-lt12 : goal.returns-then-filled-lt12
returns-then-filled-lt12 c = final_none _ _ (omega arith) (omega arith)

pub returns : goal.returns
unfolding final_of
returns c = search tests
