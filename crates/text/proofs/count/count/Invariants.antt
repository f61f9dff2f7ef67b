-- `count` counts, a letter a turn. Assumes nothing.
use mathlib.Core.Path.{◌≡◌}
use Prim.Native.Nat.{◌-◌, ◌≤◌}
use Rattle.text.proofs.Counting.{sofar}
use Rattle.text.proofs.count.count.Given as goal

abbrev pub invariant-loop-at : goal.invariant-loop-at
invariant-loop-at l = (l.from ≤ l.at) × (l.at ≤ l.end) × (l.words ≤ l.at - l.from) × (l.words ≡ sofar l.text l.from l.end (l.at - l.from))
