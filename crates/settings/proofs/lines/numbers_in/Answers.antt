-- `numbers_in` counts the words of a line of the kind. Assumes nothing.
use borrow.Author.Rules.{rules}
use mathlib.Core.Path.{◌∙◌, sym}
use Rattle.settings.proofs.Numbering.{numbers_none, numbers_some}
use Rattle.settings.proofs.lines.numbers_in.Goals as goal

pub returns-then-entry-from : goal.returns-then-entry-from
returns-then-entry-from c = numbers_none _ _ _ _ _ (c.entry.ensures.0 ∙ c.kind_of.ensures.0) (λ e. c.if-entry-from.true (e ∙ sym c.from.ensures))

pub returns : goal.returns
returns c = numbers_some _ _ _ _ _ (c.entry.ensures.0 ∙ c.kind_of.ensures.0) _ _ (c.if-entry-from.false ∙ c.from.ensures) c.count.ensures (search rules)
