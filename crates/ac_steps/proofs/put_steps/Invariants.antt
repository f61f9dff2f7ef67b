-- `put_steps` fills a list's front with the table. Assumes nothing.
use mathlib.Core.Path.{◌≡◌}
use Prim.Native.Nat.{◌-◌, ◌≤◌}
use lib.ListN.{length}
use Rattle.laws.specs.Loops.{filled}
use Rattle.ac_steps.specs.Steps.{step_at}
use Rattle.ac_steps.proofs.put_steps.Given as goal

abbrev pub invariant-loop-i : goal.invariant-loop-i
invariant-loop-i l = (l.i ≤ 352) × (length l.list ≡ length l.initial.list) × (352 ≤ length l.initial.list) × (l.list ≡ filled l.initial.list step_at l.i)

abbrev pub decreases-loop-i : goal.decreases-loop-i
decreases-loop-i l = 352 - l.i
