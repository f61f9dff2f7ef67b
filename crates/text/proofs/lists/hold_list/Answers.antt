-- `hold_list` holds one entry after the other. Assumes nothing.
use native.Mathlib.Omega.{arith}
use Rattle.text.proofs.Holding.{held_first, held_more, held_end}
use Rattle.text.proofs.lists.hold_list.Goals as goal

pub loop-v-init : goal.loop-v-init
loop-v-init g c = held_first _ _ _ _ _ _

pub hold-h-requires : goal.hold-h-requires
hold-h-requires g c = let p = c.loop-v.invariant.place in omega arith

pub loop-v-preserved : goal.loop-v-preserved
loop-v-preserved g c = held_more _ _ _ _ _ _ _ _ c.loop-v.invariant _ _ _ _ c.loop-v-test.true c.MOST.ensures c.v-item.is c.number.ensures c.hold-h.ensures

pub returns : goal.returns
returns g c = held_end _ _ _ _ _ _ _ _ c.loop-v.invariant c.loop-v-test.false
