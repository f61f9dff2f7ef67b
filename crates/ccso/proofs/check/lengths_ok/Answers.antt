-- `lengths_ok` tests the four lengths; its products fit. Assumes nothing.
use Rattle.ccso.proofs.Lengths.{lengths}
use Rattle.ccso.proofs.check.lengths_ok.Goals as goal

pub overflow_mul-s : goal.overflow_mul-s
overflow_mul-s c = search lengths

pub returns-then-luma-s : goal.returns-then-luma-s
returns-then-luma-s c = search lengths

pub halved-requires : goal.halved-requires
halved-requires c = search lengths

pub halved-requires-2 : goal.halved-requires-2
halved-requires-2 c = search lengths

pub returns-then-target-halved : goal.returns-then-target-halved
returns-then-target-halved c = search lengths

pub superblocks-requires : goal.superblocks-requires
superblocks-requires c = search lengths

pub superblocks-requires-2 : goal.superblocks-requires-2
superblocks-requires-2 c = search lengths

pub returns-then-flags-superblocks : goal.returns-then-flags-superblocks
returns-then-flags-superblocks c = search lengths

pub returns-then-s-gt3 : goal.returns-then-s-gt3
returns-then-s-gt3 c = search lengths

pub returns : goal.returns
returns c = search lengths
