-- `row`'s loop: each block so far has its columns. Assumes nothing.
use Rattle.ccso.proofs.Blocks.{row_blocks, blocks_more, blocks_end, row_at}
use mathlib.Core.Path.{◌∙◌}
use native.Mathlib.Omega.{arith}
use borrow.Author.Rules.{rules}
use Rattle.ccso.proofs.rows.row.Goals as goal

pub loop-b-init : goal.loop-b-init
loop-b-init c = search row_blocks

pub loop-b-preserved : goal.loop-b-preserved
loop-b-preserved c = (omega (arith, c.loop-b-test.true), blocks_more _ _ _ _ _ _ _ _ _ c.loop-b.invariant.1 c.block.ensures, search rules)

pub returns : goal.returns
returns c = blocks_end _ _ _ _ _ _ c.requires.raised.ranges _ _ _ c.requires.sized.blocks c.loop-b-test.false c.loop-b.invariant.0 c.loop-b.invariant.1 ∙ row_at _ _ _ _ _ c.row_of-r.ensures.1
