-- `length_after` meets its contract: the table is the rule's. Assumes nothing.
use Rattle.rules.specs.Lengths.{length_after}
use mathlib.Core.Path.{refl}
use borrow.Author.Rules.{rules}
use Rattle.compared.proofs.lengths_of.length_after.Goals as goal

pub returns : goal.returns
unfolding length_after
returns c = refl
