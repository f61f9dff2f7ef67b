-- The lines passed stand in their places. Assumes nothing.
use mathlib.Core.Path.{◌≡◌}
use Prim.Native.Nat.{◌+◌, ◌*◌, ◌-◌, ◌≤◌}
use Rattle.laws.specs.Loops.{filled}
use Rattle.rules.specs.Segment.{zero_lines, line_of}
use Rattle.kept.proofs.window.window_lines.Given as goal

abbrev pub invariant-loop-j : goal.invariant-loop-j
invariant-loop-j l = (l.j ≤ 4) × (l.lines ≡ filled zero_lines (λ i. line_of l.plane (l.at + i * l.line) l.step l.b l.a) l.j)

abbrev pub decreases-loop-j : goal.decreases-loop-j
decreases-loop-j l = 4 - l.j
