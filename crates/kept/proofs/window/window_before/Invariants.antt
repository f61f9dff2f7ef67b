-- The samples passed stand in their places. Assumes nothing.
use mathlib.Core.Path.{◌≡◌}
use Prim.Native.Nat.{◌-◌, ◌≤◌}
use lib.ListN.{get_or}
use Rattle.laws.specs.Loops.{filled}
use Rattle.rules.specs.Segment.{zeros, p_at}
use Rattle.kept.proofs.window.window_before.Given as goal

abbrev pub invariant-loop-i : goal.invariant-loop-i
invariant-loop-i l = (l.i ≤ l.b) × (l.p ≡ filled zeros (λ k. get_or l.plane (p_at l.at l.step k) 0) l.i)

abbrev pub decreases-loop-i : goal.decreases-loop-i
decreases-loop-i l = l.b - l.i
