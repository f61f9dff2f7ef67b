-- `bands` takes a band a turn. Assumes nothing.
use Rattle.std.proofs.Common.{◌≡◌, ◌-◌, length}
use Rattle.arriving.proofs.banded.bands.Given as goal

abbrev pub invariant-loop-filled : goal.invariant-loop-filled
invariant-loop-filled l = length l.plane ≡ length l.initial.plane

abbrev pub decreases-loop-filled : goal.decreases-loop-filled
decreases-loop-filled l = l.shape.rows - l.filled
