-- `put` puts the line's numbers into the list one after the other. Assumes nothing.
use mathlib.Core.Path.{◌≡◌}
use Prim.Native.Nat.{◌+◌, ◌-◌, ◌≤◌}
use lib.ListN.{length}
use Rattle.settings.specs.Values.{taken}
use Rattle.settings.proofs.values.put.Given as goal

abbrev pub invariant-loop-at : goal.invariant-loop-at
invariant-loop-at g l =
    (l.from ≤ l.at)
    × (l.at ≤ l.from + (l.stop - l.from))
    × (l.stop ≤ length l.initial.list)
    × (length l.list ≡ length l.initial.list)
    × (taken l.text (g.T.Sort.read_of l.text) (l.stop - l.at) l.list l.at l.rest ≡ taken l.text (g.T.Sort.read_of l.text) (l.stop - l.from) l.initial.list l.from l.initial.rest)
