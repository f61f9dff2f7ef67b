-- `line` meets its contract: the invariant says that the cells passed have run. Assumes nothing.
use native.Mathlib.Omega.{arith}
use borrow.Author.Rules.{rules}
use Prim.Native.Nat.{◌-◌, ◌≤◌}
use lib.ListN.{length}
use mathlib.Core.Path.{◌≡◌, refl}
use Rattle.laws.specs.Loops.{each}
use Rattle.cell_edges.specs.Cells.{one_way}
use Rattle.plane.specs.Run.{in_line, Few, state, Ran}
use Rattle.plane.proofs.Runs.{field_same, few_none, few_same, few_then, few_most, ran_none, ran_more}
use Rattle.plane.proofs.Superblocks.{line_most, line_is}
use Rattle.plane.proofs.order.line.Given as goal

abbrev pub invariant-loop-j : goal.invariant-loop-j
invariant-loop-j l = (l.j ≤ l.n)
    × Ran l.s l.table l.keep (λ steps ts. each l.j (λ i. in_line l.s steps (one_way l.marks l.sizes l.qindex ts) l.dir l.p l.k i)) (state l.initial.plane l.initial.buffer l.initial.done) (state l.plane l.buffer l.done)
    × (length l.plane ≡ length l.initial.plane) × (length l.buffer ≡ length l.initial.buffer) × Few l.j l.initial.done l.done

abbrev pub decreases-loop-j : goal.decreases-loop-j
decreases-loop-j l = l.n - l.j
