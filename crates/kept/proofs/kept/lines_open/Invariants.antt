-- The plane so far holds the lines passed, with their counts. Assumes nothing.
use mathlib.Core.Path.{◌≡◌}
use Prim.Native.Nat.{◌+◌, ◌*◌, ◌-◌, ◌≤◌}
use lib.ListN.{length, get_or}
use Rattle.laws.specs.Loops.{each}
use Rattle.rules.specs.Width.{blank}
use Rattle.rules.specs.Segment.{kept_in}
use Rattle.segment.specs.Sides.{none}
use Rattle.kept.specs.Kept.{line_open, HoldsLines, Swept, Few}
use Rattle.kept.proofs.kept.lines_open.Given as goal

abbrev pub invariant-loop-j : goal.invariant-loop-j
invariant-loop-j l = (l.j ≤ 4) × (length l.plane ≡ length l.initial.plane)
    × Swept (kept_in l.kept.cols l.kept.stride l.kept.keep.now) (each l.j (λ i. line_open l.t.top (l.e.at + i * l.e.line) l.e.step l.t.n l.t.w l.t.limit (get_or l.lines i blank))) (HoldsLines l.e.at l.e.step l.e.line l.t.n l.t.w l.lines) l.initial.plane none l.done l.plane × Few (16 * l.j) none l.done

abbrev pub decreases-loop-j : goal.decreases-loop-j
decreases-loop-j l = 4 - l.j
