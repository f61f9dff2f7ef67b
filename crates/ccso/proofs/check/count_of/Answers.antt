-- `count_of` is 16 times a power of two, at each band log2. Assumes nothing.
use Rattle.rules.specs.Ccso.{offset_count}
use native.Mathlib.Omega.{arith}
use mathlib.Core.Path.{◌≡◌}
use Rattle.ccso.proofs.check.count_of.Goals as goal

pub returns-in-0 : goal.returns-in-0
unfolding offset_count
returns-in-0 c = rw c.in-0.is

pub returns-in-1 : goal.returns-in-1
unfolding offset_count
returns-in-1 c = rw c.in-1.is

pub returns-in-2 : goal.returns-in-2
unfolding offset_count
returns-in-2 c = rw c.in-2.is

pub returns-in_default : goal.returns-in_default
unfolding offset_count
returns-in_default c = let e : c.args.s.bandlog ≡ 3 = omega arith in rw e
