-- `run`'s loop: each row so far is the rules'. Assumes nothing.
use Rattle.ccso.proofs.Blocks.{target_rows}
use Rattle.ccso.proofs.rows.run.Goals as goal

pub loop-y-init : goal.loop-y-init
loop-y-init c = search target_rows

pub loop-y-preserved : goal.loop-y-preserved
loop-y-preserved c = search target_rows

pub returns : goal.returns
returns c = search target_rows
