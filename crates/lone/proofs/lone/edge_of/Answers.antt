-- The same six numbers.
use native.Mathlib.Omega.{arith}
use mathlib.Core.Path.{refl}
use Rattle.rules.specs.Lone.{edge_of}
use borrow.Author.Rules.{rules}
use Rattle.lone.proofs.lone.edge_of.Goals as goal

pub returns : goal.returns
unfolding edge_of
returns c = (refl, omega arith, omega arith)
