-- Whatever plane the pairs before `from` were stored into: the plane so far holds the pairs passed too; the next two samples are still as they were.
use Rattle.std.proofs.Common.{◌≡◌, ℕ, ◌+◌, ◌-◌, ◌*◌, ◌≤◌, List, length}
use Rattle.segment.specs.Sides.{Paired}
use Rattle.segment.proofs.store.pairs_from.Given as goal

abbrev pub invariant-loop-i : goal.invariant-loop-i
invariant-loop-i l = (l.from ≤ l.i) × (l.i ≤ l.s) × (l.changed ≤ l.sofar + 2 * (l.i - l.from)) × (length l.plane ≡ length l.initial.plane)
    × ((k : List ℕ) (m : ℕ) → Paired l.m.top l.at l.step l.s l.m.plus l.m.by k l.from l.initial.plane m l.sofar → Paired l.m.top l.at l.step l.s l.m.plus l.m.by k l.i l.plane m l.changed)

abbrev pub decreases-loop-i : goal.decreases-loop-i
decreases-loop-i l = l.s - l.i
