-- `cap_ok` tells the five caps from all other numbers. Assumes nothing.
use borrow.Author.Tests.{ne_eqb}
use Rattle.laws.specs.Choose.{either}
use Rattle.rules.specs.TuGrid.{cap_ok}
use Rattle.tiles.proofs.tests.cap_ok.Goals as goal

pub returns-in-1 : goal.returns-in-1
unfolding cap_ok either
returns-in-1 c = rw c.in-1.is

pub returns-in-2 : goal.returns-in-2
unfolding cap_ok either
returns-in-2 c = rw c.in-2.is

pub returns-in-4 : goal.returns-in-4
unfolding cap_ok either
returns-in-4 c = rw c.in-4.is

pub returns-in-8 : goal.returns-in-8
unfolding cap_ok either
returns-in-8 c = rw c.in-8.is

pub returns-in-16 : goal.returns-in-16
unfolding cap_ok either
returns-in-16 c = rw c.in-16.is

pub returns-in_default : goal.returns-in_default
unfolding cap_ok either
returns-in_default c = rw (ne_eqb _ _ c.in_default.in_default-own.rest.0.0.0.0.1, ne_eqb _ _ c.in_default.in_default-own.rest.0.0.0.1, ne_eqb _ _ c.in_default.in_default-own.rest.0.0.1, ne_eqb _ _ c.in_default.in_default-own.rest.0.1, ne_eqb _ _ c.in_default.in_default-own.rest.1)
