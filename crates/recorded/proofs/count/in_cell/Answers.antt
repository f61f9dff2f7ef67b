-- `in_cell` meets its contract. Assumes nothing.
use native.Mathlib.Omega.{arith}
use borrow.Author.Rules.{rules}
use Rattle.recorded.specs.Count.{in_cell}
use Rattle.recorded.proofs.count.in_cell.Goals as goal

pub returns : goal.returns
unfolding in_cell
returns c = ((cc), omega arith)
