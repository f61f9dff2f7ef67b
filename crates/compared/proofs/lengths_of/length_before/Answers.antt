-- `length_before` meets its contract: the table is the rule's. Assumes nothing.
use Rattle.rules.specs.Lengths.{length_before}
use mathlib.Core.Path.{refl}
use borrow.Author.Rules.{rules}
use Rattle.compared.proofs.lengths_of.length_before.Goals as goal

pub returns : goal.returns
unfolding length_before
returns c = refl
