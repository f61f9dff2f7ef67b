-- `sweep` meets its contract: the invariant says that the lines passed have run. Assumes nothing.
use native.Mathlib.Omega.{arith}
use borrow.Author.Rules.{rules}
use Prim.Native.Nat.{◌*◌, ◌-◌, ◌≤◌}
use lib.ListN.{length}
use mathlib.Core.Path.{◌≡◌, refl}
use Rattle.laws.specs.Loops.{each}
use Rattle.cell_edges.specs.Cells.{one_way}
use Rattle.plane.specs.Run.{line_of, Few, state, Ran}
use Rattle.plane.proofs.Runs.{field_same, few_none, few_same, few_then, few_most, ran_none, ran_more}
use Rattle.plane.proofs.Superblocks.{lines_most, sweep_is}
use Rattle.plane.proofs.order.sweep.Given as goal

abbrev pub invariant-loop-k : goal.invariant-loop-k
invariant-loop-k l = (l.k ≤ l.n)
    × Ran l.s l.table l.keep (λ steps ts. each l.k (λ i. line_of l.s steps (one_way l.marks l.sizes l.qindex ts) l.dir l.p i)) (state l.initial.plane l.initial.buffer l.initial.done) (state l.plane l.buffer l.done)
    × (length l.plane ≡ length l.initial.plane) × (length l.buffer ≡ length l.initial.buffer) × Few (l.k * 1024) l.initial.done l.done

abbrev pub decreases-loop-k : goal.decreases-loop-k
decreases-loop-k l = l.n - l.k
