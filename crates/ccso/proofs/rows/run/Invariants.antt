-- `run`'s loop: each row so far is the rules'. Assumes nothing.
use mathlib.Core.Path.{◌≡◌}
use Prim.Native.Nat.{◌-◌, ◌≤◌}
use lib.ListN.{length}
use Rattle.laws.specs.Loops.{turns}
use Rattle.rules.specs.Ccso.{ccso_row}
use Rattle.ccso.proofs.rows.run.Given as goal

abbrev pub invariant-loop-y : goal.invariant-loop-y
invariant-loop-y l = (l.y ≤ l.rows) × (l.target ≡ turns l.y (λ i. ccso_row l.s l.luma l.flags l.offsets i) l.initial.target) × (length l.target ≡ length l.initial.target)

abbrev pub decreases-loop-y : goal.decreases-loop-y
decreases-loop-y l = l.rows - l.y
