-- `lines_of` walks the lines, and keeps the last one of each kind. Assumes nothing.
use Rattle.settings.specs.Numbered.{numbered}
use mathlib.Core.Path.{◌≡◌}
use Prim.Native.Nat.{◌+◌, ◌-◌, ◌≤◌}
use lib.ListN.{length}
use Rattle.settings.proofs.lines.lines_of.Given as goal

abbrev pub invariant-loop-here : goal.invariant-loop-here
invariant-loop-here l =
    (l.walk.at ≤ length l.text + 1)
    × (l.walk.number ≤ l.walk.at + 1)
    × (numbered l.text (length l.text + 1 - l.walk.number) l.walk.at l.walk.number l.lines ≡ numbered l.text (length l.text + 1 - 1) 0 1 l.initial.lines)

abbrev pub decreases-loop-here : goal.decreases-loop-here
decreases-loop-here l = length l.text + 1 - l.walk.at
