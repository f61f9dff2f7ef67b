-- `size` is put together from what its callees read. Assumes nothing.
use Rattle.y4m.proofs.Heading.{heading as needs}
use Rattle.y4m.proofs.header.size.Goals as goal

pub returns-then-end-at : goal.returns-then-end-at
returns-then-end-at c = search needs

pub returns-then-text-at-lt48 : goal.returns-then-text-at-lt48
returns-then-text-at-lt48 c = search needs

pub returns : goal.returns
returns c = search needs
