-- `turn` meets its contract. Assumes nothing.
use mathlib.Core.Path.{refl}
use native.Mathlib.Omega.{arith}
use borrow.Author.Rules.{rules}
use Rattle.plane.proofs.Runs.{field_same, few_none, few_same, few_then, few_most}
use Rattle.plane.proofs.Superblocks.{sb_part, vert_of, horz_of, turn_first, turn_later}
use Rattle.plane.proofs.order.turn.Goals as goal

pub sweep-vertical-requires : goal.sweep-vertical-requires
sweep-vertical-requires c =
    let given = c.requires in
    (given.0, sb_part given.0.ready.sizes_ok _ c.superblock.ensures given.2, omega arith, few_most given.3 (few_none 0 _) (omega arith))

pub returns-then-sb-eq0 : goal.returns-then-sb-eq0
returns-then-sb-eq0 c =
    let vertical = c.sweep-vertical.ensures in
    record { ran = turn_first _ _ (vert_of _ _ _ _ _ _ c.superblock.ensures vertical.ran) c.if-sb-eq0.true; few = few_same vertical.few (omega arith) }

pub sweep-requires : goal.sweep-requires
sweep-requires c =
    let given = c.requires in
    (field_same (search rules) given.1, sb_part given.0.ready.sizes_ok _ c.superblock-2.ensures (omega (arith, given.2)), omega arith, few_most given.3 c.sweep-vertical.ensures.few (omega arith))

pub returns : goal.returns
returns c =
    let vertical = c.sweep-vertical.ensures in
    let horizontal = c.sweep.ensures in
    let first = vert_of _ _ _ _ _ _ c.superblock.ensures vertical.ran in
    record { ran = turn_later _ _ first c.if-sb-eq0.false (horz_of _ _ _ _ _ _ c.superblock-2.ensures horizontal.ran) refl; few = few_then vertical.few horizontal.few (omega arith) }
