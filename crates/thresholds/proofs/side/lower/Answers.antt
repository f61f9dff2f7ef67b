-- `lower` is the rule in counts. Assumes nothing.
use mathlib.Core.Path.{sym}
use native.Mathlib.Omega.{arith}
use Rattle.thresholds.proofs.Sides.{units, lowered_is, lowered_low}
use borrow.Author.Rules.{rules}
use Rattle.thresholds.proofs.side.lower.Goals as goal

pub returns-then-up-t : goal.returns-then-up-t
returns-then-up-t c = lowered_low _ _ _ c.requires.0 c.unit-whole.ensures c.if-up-t.true

pub returns : goal.returns
returns c = sym (lowered_is _ _ _ c.requires.0 c.unit-whole.ensures)
