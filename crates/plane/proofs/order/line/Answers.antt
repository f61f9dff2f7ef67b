-- `line` meets its contract: the invariant says that the cells passed have run. Assumes nothing.
use native.Mathlib.Omega.{arith}
use borrow.Author.Rules.{rules}
use Prim.Native.Nat.{◌-◌, ◌≤◌}
use lib.ListN.{length}
use mathlib.Core.Path.{◌≡◌, refl}
use Rattle.laws.specs.Loops.{each}
use Rattle.cell_edges.specs.Cells.{one_way}
use Rattle.plane.specs.Run.{in_line, Few, state, Ran}
use Rattle.plane.proofs.Runs.{field_same, few_none, few_same, few_then, few_most, ran_none, ran_more}
use Rattle.plane.proofs.Superblocks.{line_most, line_is}
use Rattle.plane.proofs.order.line.Goals as goal

pub loop-j-init : goal.loop-j-init
loop-j-init c = (search rules, ran_none _ _, refl, refl, few_none _ _)

pub cell-done-requires : goal.cell-done-requires
cell-done-requires c =
    let given = c.requires in
    let turns = c.loop-j in
    let most = line_most c.args.dir given.0.ready.sizes_ok given.1 c.by_dir-n.ensures in
    (field_same turns.invariant.2 given.0, given.1, record { two = given.2; line_in = given.3; cell_in = omega (arith, c.by_dir-n.ensures) }, few_most given.4 turns.invariant.4 (omega (arith, turns.invariant.0)))

pub loop-j-preserved : goal.loop-j-preserved
loop-j-preserved c =
    let turns = c.loop-j in
    (search rules, ran_more _ _ turns.invariant.1 c.cell-done.ensures.ran, search rules, search rules, few_then turns.invariant.4 c.cell-done.ensures.few (omega arith))

pub returns : goal.returns
returns c =
    let given = c.requires in
    let turns = c.loop-j in
    let most = line_most c.args.dir given.0.ready.sizes_ok given.1 c.by_dir-n.ensures in
    record { ran = line_is _ _ _ _ turns.invariant.1 c.by_dir-n.ensures turns.invariant.0 (search rules); few = few_same turns.invariant.4 (omega (arith, turns.invariant.0)) }
