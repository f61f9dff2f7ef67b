-- The plane so far holds the stores of the pairs passed, twice as many of which changed as moves were not 0; the next two samples are still as they were.
use Rattle.std.proofs.Common.{◌≡◌, ◌-◌, ◌*◌, ◌≤◌, length}
use Rattle.segment.specs.Sides.{Paired}
use Rattle.segment.proofs.store.plain_pairs.Given as goal

abbrev pub invariant-loop-i : goal.invariant-loop-i
invariant-loop-i l = (l.i ≤ l.s) × (l.moved ≤ l.i) × (length l.plane ≡ length l.initial.plane) × Paired l.m.top l.at l.step l.s l.m.plus l.m.by l.initial.plane l.i l.plane 0 (2 * l.moved)

abbrev pub decreases-loop-i : goal.decreases-loop-i
decreases-loop-i l = l.s - l.i
