-- `line_with` walks the lines, up to the one that has more numbers of the kind than are left. Assumes nothing.
use Rattle.settings.specs.Kinds.{number_of}
use Rattle.settings.specs.Numbered.{holding}
use mathlib.Core.Path.{◌≡◌}
use Prim.Native.Nat.{◌+◌, ◌-◌, ◌≤◌}
use lib.ListN.{length}
use Rattle.settings.proofs.lines.line_with.Given as goal

abbrev pub invariant-loop-here : goal.invariant-loop-here
invariant-loop-here l =
    (l.walk.at ≤ length l.text + 1)
    × (l.walk.number ≤ l.walk.at + 1)
    × (1 ≤ l.walk.number)
    × (holding l.text (number_of l.kind) (length l.text + 1 - l.walk.number) l.walk.at l.walk.number l.left ≡ holding l.text (number_of l.kind) (length l.text + 1 - 1) 0 1 l.initial.left)

abbrev pub decreases-loop-here : goal.decreases-loop-here
decreases-loop-here l = length l.text + 1 - l.walk.at
