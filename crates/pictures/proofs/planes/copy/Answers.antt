-- `copy` stores the front of a list over the front of another. Assumes nothing.
use borrow.Author.Rules.{rules}
use Rattle.pictures.proofs.Copies.{copied}
use Rattle.pictures.proofs.planes.copy.Goals as goal

pub returns : goal.returns
returns c = copied _ _ _ (search rules) c.copy_from_slice.ensures.after
