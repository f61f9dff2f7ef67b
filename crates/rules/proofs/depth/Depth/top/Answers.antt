-- `Depth::top` is the constant of each depth. Assumes nothing.
use Rattle.rules.specs.Numbers.{top_of}
use Rattle.rules.proofs.Depths.{last}
use Rattle.rules.proofs.depth.Depth.top.Goals as goal

pub returns-in-8 : goal.returns-in-8
unfolding top_of
returns-in-8 c = rw c.in-8.is

pub returns-in-10 : goal.returns-in-10
unfolding top_of
returns-in-10 c = rw c.in-10.is

pub returns-in_default : goal.returns-in_default
unfolding top_of
returns-in_default c = rw (last _ c.requires c.in_default.in_default-own.rest.0.1 c.in_default.in_default-own.rest.1)
