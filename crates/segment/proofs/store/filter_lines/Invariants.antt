-- The plane so far holds the taps of the lines passed, with their counts; the next line is still as it was.
use Rattle.std.proofs.Common.{◌≡◌, ◌+◌, ◌*◌, ◌≤◌, length}
use Rattle.laws.specs.Loops.{each}
use Rattle.segment.specs.Sides.{line_taps, none, Tapped}
use Rattle.segment.proofs.store.filter_lines.Given as goal

abbrev pub invariant-loop-j : goal.invariant-loop-j
invariant-loop-j l = (l.j ≤ 4) × (l.done.stored ≤ 16 * l.j) × (l.done.changed ≤ 16 * l.j) × (length l.plane ≡ length l.initial.plane)
    × Tapped (each l.j (λ i. line_taps l.t.top (l.e.at + i * l.e.line) l.e.step l.t.n l.t.w l.t.limit l.initial.plane)) l.initial.plane none l.done l.plane
