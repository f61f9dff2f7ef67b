-- `parse` goes from line to line. Assumes nothing.
use Prim.Native.Nat.{◌+◌, ◌-◌, ◌≤◌}
use mathlib.Core.Path.{◌≡◌}
use lib.ListN.{length}
use Rattle.settings.specs.Lines.{Kept, Lent, lent}
use Rattle.settings.specs.Text.{walk}
use Rattle.settings.proofs.file.parse.Given as goal

abbrev pub invariant-loop-here : goal.invariant-loop-here
invariant-loop-here l =
    (l.walk.at ≤ length l.text + 1)
    × (l.walk.number ≤ l.walk.at + 1)
    × Lent l.initial.s l.s
    × Kept (lent l.initial.s).lists (lent l.s).lists
    × (walk l.text (length l.text + 1 - l.walk.number) l.walk.at l.walk.number (lent l.s) ≡ walk l.text (length l.text + 1 - 1) 0 1 (lent l.initial.s))

abbrev pub decreases-loop-here : goal.decreases-loop-here
decreases-loop-here l = length l.text + 1 - l.walk.at
