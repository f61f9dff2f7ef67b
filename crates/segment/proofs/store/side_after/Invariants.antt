-- The plane so far holds the stores of the samples passed, with the count of those that changed; the next sample is still as it was.
use Rattle.std.proofs.Common.{◌≡◌, ◌+◌, ◌-◌, ◌≤◌, length}
use Rattle.laws.specs.Changes.{Put}
use Rattle.segment.specs.Sides.{against_stores}
use Rattle.segment.proofs.store.side_after.Given as goal

abbrev pub invariant-loop-i : goal.invariant-loop-i
invariant-loop-i l = (l.i ≤ l.s) × (l.changed ≤ l.sofar + l.i) × (length l.plane ≡ length l.initial.plane) × Put (against_stores l.m.top l.at l.step l.s l.m.plus l.m.by l.initial.plane l.i) l.initial.plane l.plane l.sofar l.changed

abbrev pub decreases-loop-i : goal.decreases-loop-i
decreases-loop-i l = l.s - l.i
