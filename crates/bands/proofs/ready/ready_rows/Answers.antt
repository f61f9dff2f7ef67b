-- `ready_rows` meets its contract. Assumes nothing.
use borrow.Author.Rules.{rules}
use native.Mathlib.Omega.{arith}
use Rattle.laws.specs.Choose.{tests}
use Rattle.rules.specs.Rows.{ready}
use Rattle.bands.proofs.Bands.{ready_none}
use Rattle.bands.proofs.ready.ready_rows.Goals as goal

pub returns-then-rows-a : goal.returns-then-rows-a
unfolding ready
returns-then-rows-a c = search tests

pub returns-then-a-eq0 : goal.returns-then-a-eq0
returns-then-a-eq0 c = ready_none _ _ (omega arith) (omega arith)

pub returns : goal.returns
unfolding ready
returns c = search tests
