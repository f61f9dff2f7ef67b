-- `is_last` asks whether a letter stands here, and one after it. Assumes nothing.
use borrow.Author.Tests.{lt-leb, le-leb}
use mathlib.Core.Path.{sym, ◌∙◌}
use Rattle.laws.specs.Choose.{pick}
use Rattle.text.specs.Words.{last_of}
use Rattle.text.proofs.Counting.{one_of}
use Rattle.text.proofs.count.is_last.Goals as goal

pub returns-then-end-at : goal.returns-then-end-at
unfolding last_of pick
returns-then-end-at c = let e = sym c.blank.ensures ∙ c.if-not-blank.true in rw (e, le-leb _ _ c.if-end-at.true)

pub returns-else-end-at : goal.returns-else-end-at
unfolding last_of pick
returns-else-end-at c = let e = sym c.blank.ensures ∙ c.if-not-blank.true in rw (e, lt-leb _ _ c.if-end-at.false, ← c.blank-else-end-at.ensures) (one_of c.blank-else-end-at.result)

pub returns-else-not-blank : goal.returns-else-not-blank
unfolding last_of pick
returns-else-not-blank c = let e = sym c.blank.ensures ∙ c.if-not-blank.false in rw (e, c.if-not-blank.false)
