-- `run` meets its contract: the invariant says that the superblock columns passed have had their turn. Assumes nothing.
use native.Mathlib.Omega.{arith}
use borrow.Author.Rules.{rules}
use Prim.Native.Nat.{◌*◌, ◌-◌, ◌≤◌}
use lib.ListN.{length}
use mathlib.Core.Path.{◌≡◌, refl}
use Rattle.laws.specs.Loops.{each}
use Rattle.plane.specs.Run.{none, Few, state, Ran}
use Rattle.rules.specs.Plane.{tiled, turn_of, sb_cols}
use Rattle.plane.proofs.Runs.{field_same, few_none, few_then, few_most, most_none, ran_none, ran_more}
use Rattle.plane.proofs.Superblocks.{sb_some, sb_last, sb_most, sb_part, horz_of, edges_are}
use Rattle.plane.proofs.order.run.Goals as goal

pub loop-sb-init : goal.loop-sb-init
loop-sb-init c = (search rules, ran_none _ _, refl, refl, few_none _ _)

pub turn-done-requires : goal.turn-done-requires
unfolding sb_cols
turn-done-requires c =
    let given = c.requires in
    let turns = c.loop-sb in
    (field_same turns.invariant.2 given.0, field_same turns.invariant.2 given.1, search rules, few_most most_none turns.invariant.4 (omega (arith, turns.invariant.0, sb_most given.0.ready.sizes_ok)))

pub loop-sb-preserved : goal.loop-sb-preserved
loop-sb-preserved c =
    let turns = c.loop-sb in
    (search rules, ran_more _ _ turns.invariant.1 c.turn-done.ensures.ran, search rules, search rules, few_then turns.invariant.4 c.turn-done.ensures.few (omega arith))

pub superblock-requires : goal.superblock-requires
unfolding sb_cols
superblock-requires c = (c.requires.0.ready.sizes_ok, sb_last c.requires.0.ready.sizes_ok)

pub sweep-requires : goal.sweep-requires
unfolding sb_cols
sweep-requires c =
    let given = c.requires in
    let turns = c.loop-sb in
    let last = sb_last given.0.ready.sizes_ok in
    (field_same turns.invariant.2 given.1, sb_part given.0.ready.sizes_ok _ c.superblock.ensures last, omega arith, few_most most_none turns.invariant.4 (omega (arith, turns.invariant.0, sb_most given.0.ready.sizes_ok)))

pub returns : goal.returns
unfolding sb_cols
returns c =
    let turns = c.loop-sb in
    edges_are _ turns.invariant.1 turns.invariant.0 (search rules) (horz_of _ _ _ _ _ _ c.superblock.ensures c.sweep.ensures.ran)
