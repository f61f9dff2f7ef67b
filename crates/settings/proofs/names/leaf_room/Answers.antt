-- `leaf_room` is a third of what the qindex entries leave. Assumes nothing.
use native.Mathlib.Omega.{arith}
use Rattle.settings.specs.Rules.{leaf_room}
use Rattle.settings.proofs.names.leaf_room.Goals as goal

pub returns-then-n-lt22526 : goal.returns-then-n-lt22526
unfolding leaf_room
returns-then-n-lt22526 c = (omega arith, omega arith, omega arith)

pub returns : goal.returns
unfolding leaf_room
returns c = (omega arith, omega arith, omega arith)
