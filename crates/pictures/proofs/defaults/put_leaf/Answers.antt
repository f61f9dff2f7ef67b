-- `put_leaf` stores four numbers. Assumes nothing.
use Rattle.pictures.specs.Defaults.{leaf}
use Rattle.pictures.proofs.Leaves.{leaf_put}
use Rattle.pictures.proofs.defaults.put_leaf.Goals as goal

pub returns : goal.returns
unfolding leaf
returns c = leaf_put _ _ _ _ c.requires c.copy_from_slice.ensures.after
