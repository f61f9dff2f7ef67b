-- `good_leaves` stops at the first bad leaf. Assumes nothing.
use Rattle.std.proofs.Common.{◌∙◌, sym, arith}
use Rattle.checks.proofs.First.{first_none}
use Rattle.leaves.proofs.Flat.{good_more, good_stop, good_end}
use Rattle.leaves.proofs.records.good_leaves.Goals as goal

pub loop-i-init : goal.loop-i-init
loop-i-init c = first_none _

pub loop-i-preserved : goal.loop-i-preserved
loop-i-preserved c = good_more c.args.skip c.args.ls.now c.loop-i.i c.loop-i.invariant (sym c.leaf_good.ensures ∙ c.if-not-leaf_good.false)

pub returns-then-not-leaf_good : goal.returns-then-not-leaf_good
returns-then-not-leaf_good c = good_stop c.args.skip c.args.ls.now c.loop-i.i c.loop-i.invariant (sym c.leaf_good.ensures ∙ c.if-not-leaf_good.true) c.loop-i-test.true

pub returns : goal.returns
returns c = good_end c.args.skip c.args.ls.now c.loop-i.i c.loop-i.invariant (omega arith) (omega arith)
