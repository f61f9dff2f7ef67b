-- `row`'s loop: each block so far has its columns. Assumes nothing.
use mathlib.Core.Path.{◌≡◌}
use Prim.Native.Nat.{◌-◌, ◌≤◌}
use lib.ListN.{length}
use Rattle.laws.specs.Loops.{turns}
use Rattle.rules.specs.Ccso.{ccso_cell}
use Rattle.ccso.specs.Lists.{columns_to}
use Rattle.ccso.proofs.rows.row.Given as goal

abbrev pub invariant-loop-b : goal.invariant-loop-b
invariant-loop-b l = (l.b ≤ l.blocks) × (l.target ≡ turns (columns_to l.s l.b) (λ x. ccso_cell l.s l.luma l.flags l.offsets l.r.y x) l.initial.target) × (length l.target ≡ length l.initial.target)

abbrev pub decreases-loop-b : goal.decreases-loop-b
decreases-loop-b l = l.blocks - l.b
