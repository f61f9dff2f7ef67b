-- `log2` of the seven sizes. Assumes nothing.
use borrow.Author.Tests.{ne_eqb}
use Rattle.laws.specs.Choose.{pick}
use Rattle.rules.specs.TuGrid.{log2_of}
use Rattle.grid.proofs.paint.log2.Goals as goal

pub returns-in-1 : goal.returns-in-1
unfolding log2_of pick
returns-in-1 c = rw c.in-1.is

pub returns-in-2 : goal.returns-in-2
unfolding log2_of pick
returns-in-2 c = rw c.in-2.is

pub returns-in-4 : goal.returns-in-4
unfolding log2_of pick
returns-in-4 c = rw c.in-4.is

pub returns-in-8 : goal.returns-in-8
unfolding log2_of pick
returns-in-8 c = rw c.in-8.is

pub returns-in-16 : goal.returns-in-16
unfolding log2_of pick
returns-in-16 c = rw c.in-16.is

pub returns-in-32 : goal.returns-in-32
unfolding log2_of pick
returns-in-32 c = rw c.in-32.is

pub returns-in_default : goal.returns-in_default
unfolding log2_of pick
returns-in_default c = rw (ne_eqb _ _ c.in_default.in_default-own.rest.0.0.0.0.0.1, ne_eqb _ _ c.in_default.in_default-own.rest.0.0.0.0.1, ne_eqb _ _ c.in_default.in_default-own.rest.0.0.0.1, ne_eqb _ _ c.in_default.in_default-own.rest.0.0.1, ne_eqb _ _ c.in_default.in_default-own.rest.0.1, ne_eqb _ _ c.in_default.in_default-own.rest.1)
