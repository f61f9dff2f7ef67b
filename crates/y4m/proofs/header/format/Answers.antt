-- `format` is put together from what its callees read. Assumes nothing.
use Rattle.y4m.proofs.Heading.{heading as needs}
use Rattle.y4m.proofs.header.format.Goals as goal

pub returns-then-at-end : goal.returns-then-at-end
returns-then-at-end c = search needs

pub returns : goal.returns
returns c = search needs
