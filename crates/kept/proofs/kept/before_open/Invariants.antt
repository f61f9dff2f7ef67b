-- The plane so far holds the samples passed before the edge that are not kept, with their counts. Assumes nothing.
use mathlib.Core.Path.{◌≡◌}
use Prim.Native.Nat.{◌-◌, ◌≤◌}
use lib.ListN.{length}
use Rattle.rules.specs.Segment.{p_at, kept_in}
use Rattle.kept.specs.Kept.{along_line, Holds, Swept, Few}
use Rattle.kept.proofs.kept.before_open.Given as goal

abbrev pub invariant-loop-i : goal.invariant-loop-i
invariant-loop-i l = (l.i ≤ l.s) × (length l.plane ≡ length l.initial.plane)
    × Swept (kept_in l.kept.cols l.kept.stride l.kept.keep.now) (along_line l.m.top l.at l.step l.s l.m.plus l.m.by l.p l.i) (Holds (p_at l.at l.step) l.s l.p) l.initial.plane l.initial.done l.done l.plane × Few l.i l.initial.done l.done

abbrev pub decreases-loop-i : goal.decreases-loop-i
decreases-loop-i l = l.s - l.i
