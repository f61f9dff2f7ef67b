-- `is_tag` tests two bytes. Assumes nothing.
use Rattle.laws.specs.Choose.{tests as needs}
use Rattle.y4m.specs.Headers.{tag_at}
use Rattle.y4m.proofs.header.is_tag.Goals as goal

pub returns-then-text-k-eq32 : goal.returns-then-text-k-eq32
unfolding tag_at
returns-then-text-k-eq32 c = search needs

pub returns-else-text-k-eq32 : goal.returns-else-text-k-eq32
unfolding tag_at
returns-else-text-k-eq32 c = search needs
