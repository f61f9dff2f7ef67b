-- `read_on` fills the buffer, more at each turn. Assumes nothing.
use Rattle.std.proofs.Common.{length, ◌-◌, ◌≡◌}
use Rattle.cases.proofs.stream.Stream.read_on.Given as goal

abbrev pub invariant-loop-self : goal.invariant-loop-self
invariant-loop-self g l = l.self.next ≡ 0

abbrev pub decreases-loop-self : goal.decreases-loop-self
decreases-loop-self g l = length l.self.buf.now - l.self.filled
