-- `Depth::is` tells the three depths from all other numbers. Assumes nothing.
use Rattle.rules.specs.Numbers.{depth_ok}
use Rattle.laws.specs.Choose.{either}
use Rattle.rules.proofs.Depths.{other}
use Rattle.rules.proofs.depth.Depth.is.Goals as goal

pub returns-in-8 : goal.returns-in-8
unfolding depth_ok either
returns-in-8 c = rw c.in-8.is

pub returns-in-10 : goal.returns-in-10
unfolding depth_ok either
returns-in-10 c = rw c.in-10.is

pub returns-in-12 : goal.returns-in-12
unfolding depth_ok either
returns-in-12 c = rw c.in-12.is

pub returns-in_default : goal.returns-in_default
returns-in_default c = other _ c.in_default.in_default-own.rest.0.0.1 c.in_default.in_default-own.rest.0.1 c.in_default.in_default-own.rest.1
