-- `paint_leaves` paints one leaf after the other. Assumes nothing.
use Rattle.std.proofs.Common.{arith}
use Rattle.laws.specs.Loops.{turns_none}
use Rattle.leaves.proofs.Flat.{flat_each, paint_more, paint_end}
use Rattle.leaves.proofs.records.paint_leaves.Goals as goal

pub loop-leaf-init : goal.loop-leaf-init
loop-leaf-init c = turns_none _ _

pub paint_leaf-requires-clause-good : goal.paint_leaf-requires-clause-good
paint_leaf-requires-clause-good c = flat_each c.args.ls.now c.loop-leaf.leaf-index c.requires.2 c.loop-leaf-test.true

pub loop-leaf-preserved : goal.loop-leaf-preserved
loop-leaf-preserved c = paint_more c.args.s c.args.skip c.args.ls.now _ c.loop-leaf.leaf-index _ c.loop-leaf.invariant c.paint_leaf.ensures

pub returns : goal.returns
returns c = paint_end c.args.s c.args.skip c.args.ls.now _ c.loop-leaf.leaf-index _ c.loop-leaf.invariant (omega arith) (omega arith)
