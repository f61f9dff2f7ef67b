-- `superblock` meets its contract. Assumes nothing.
use Rattle.plane.proofs.Superblocks.{blocks as needs}
use Rattle.plane.proofs.part.superblock.Goals as goal

pub overflow_mul-start : goal.overflow_mul-start
overflow_mul-start c = search needs

pub overflow_sub-s : goal.overflow_sub-s
overflow_sub-s c = search needs

pub returns : goal.returns
returns c = search needs
