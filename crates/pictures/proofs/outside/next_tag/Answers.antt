-- `next_tag` walks to the next such letter. Assumes nothing.
use Rattle.pictures.proofs.Beyond.{finding as needs}
use Rattle.pictures.proofs.outside.next_tag.Goals as goal

pub returns-then-is_tag : goal.returns-then-is_tag
returns-then-is_tag c = search needs

pub loop-at-preserved : goal.loop-at-preserved
loop-at-preserved c = search needs

pub returns : goal.returns
returns c = search needs
