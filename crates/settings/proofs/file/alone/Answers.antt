-- `alone` asks one place after the other. Assumes nothing.
use borrow.Author.Tests.{eq-eqb, ne_eqb}
use Rattle.laws.specs.Choose.{both}
use Rattle.settings.specs.Text.{alone_of}
use Rattle.settings.proofs.file.alone.Goals as goal

pub returns-then-ccso-none : goal.returns-then-ccso-none
unfolding alone_of both
returns-then-ccso-none c = rw (ne_eqb _ _ c.if-ccso-none.true)

pub returns : goal.returns
unfolding alone_of both
returns c = rw (eq-eqb _ _ c.if-ccso-none.false)
