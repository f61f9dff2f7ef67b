-- `sweep` meets its contract: the invariant says that the lines passed have run. Assumes nothing.
use native.Mathlib.Omega.{arith}
use borrow.Author.Rules.{rules}
use Prim.Native.Nat.{◌*◌, ◌-◌, ◌≤◌}
use lib.ListN.{length}
use mathlib.Core.Path.{◌≡◌, refl}
use Rattle.laws.specs.Loops.{each}
use Rattle.cell_edges.specs.Cells.{one_way}
use Rattle.plane.specs.Run.{line_of, Few, state, Ran}
use Rattle.plane.proofs.Runs.{field_same, few_none, few_same, few_then, few_most, ran_none, ran_more}
use Rattle.plane.proofs.Superblocks.{lines_most, sweep_is}
use Rattle.plane.proofs.order.sweep.Goals as goal

pub loop-k-init : goal.loop-k-init
loop-k-init c = (search rules, ran_none _ _, refl, refl, few_none _ _)

pub line-done-requires : goal.line-done-requires
line-done-requires c =
    let given = c.requires in
    let turns = c.loop-k in
    let most = lines_most c.args.dir given.0.ready.sizes_ok given.1 c.by_dir-n.ensures in
    (field_same turns.invariant.2 given.0, given.1, given.2, omega (arith, c.by_dir-n.ensures), few_most given.3 turns.invariant.4 (omega (arith, turns.invariant.0)))

pub loop-k-preserved : goal.loop-k-preserved
loop-k-preserved c =
    let turns = c.loop-k in
    (search rules, ran_more _ _ turns.invariant.1 c.line-done.ensures.ran, search rules, search rules, few_then turns.invariant.4 c.line-done.ensures.few (omega arith))

pub returns : goal.returns
returns c =
    let given = c.requires in
    let turns = c.loop-k in
    let most = lines_most c.args.dir given.0.ready.sizes_ok given.1 c.by_dir-n.ensures in
    record { ran = sweep_is _ _ _ turns.invariant.1 c.by_dir-n.ensures turns.invariant.0 (search rules); few = few_same turns.invariant.4 (omega (arith, turns.invariant.0)) }
