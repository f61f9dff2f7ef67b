-- `tu` is the whole size or the smaller of size and cap. Assumes nothing.
use native.Mathlib.Omega.{arith}
use Rattle.laws.specs.Choose.{pick}
use Rattle.tiles.proofs.tile.tu.Goals as goal

pub returns-then-whole : goal.returns-then-whole
unfolding pick
returns-then-whole c = rw c.if-whole.true

pub returns-then-size-cap : goal.returns-then-size-cap
unfolding pick
returns-then-size-cap c = rw c.if-whole.false (omega arith)

pub returns : goal.returns
unfolding pick
returns c = rw c.if-whole.false (omega arith)
