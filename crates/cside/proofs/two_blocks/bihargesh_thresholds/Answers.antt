-- `bihargesh_thresholds` answers as document 01's C side says. Assumes nothing.
use Rattle.cside.proofs.Blocks.{blocks as needs}
use Rattle.cside.proofs.two_blocks.bihargesh_thresholds.Goals as goal

pub returns-then-not-is : goal.returns-then-not-is
returns-then-not-is c = search needs

pub returns-then-steps-ne1408 : goal.returns-then-steps-ne1408
returns-then-steps-ne1408 c = search needs

pub packed-requires : goal.packed-requires
packed-requires c = search needs

pub returns-in-Ok : goal.returns-in-Ok
returns-in-Ok c = search needs

pub returns-in-Err : goal.returns-in-Err
returns-in-Err c = search needs
