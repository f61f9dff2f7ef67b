-- `over_new` meets its contract. Assumes nothing.
use native.Mathlib.Omega.{arith}
use borrow.Author.Rules.{rules}
use Rattle.rules.specs.Rows.{over_new}
use Rattle.rows.proofs.Calls.{new_fits, new_box}
use Rattle.rows.proofs.check.over_new.Goals as goal

pub samples-requires : goal.samples-requires
samples-requires c = let given = c.requires in new_box given.0 given.3 given.4 given.2

pub returns : goal.returns
unfolding over_new
returns c = cc
