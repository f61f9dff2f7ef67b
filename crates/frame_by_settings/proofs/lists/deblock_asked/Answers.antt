-- `deblock_asked` deblocks by the lists that the settings have. Assumes nothing.
use Rattle.frame_by_settings.proofs.Refusing.{settled}
use borrow.Author.Rules.{rules}
use Rattle.frame_by_settings.proofs.lists.deblock_asked.Goals as goal

pub returns : goal.returns
returns c = search settled
